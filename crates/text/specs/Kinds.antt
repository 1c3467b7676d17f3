-- Which kind of byte a byte is. The kinds are apart from each other, and each set of bytes that a rule names is a union of some.
use Rattle.std.specs.Prelude.{ℕ, Bool, true, false, cond, ◌||◌, ◌==◌}
use Rattle.text.specs.Bytes.{between, upper, digit, blank, visible, name_byte, host_byte, plain_byte, rule_byte, query_byte}
use Rattle.text.specs.declared.kind.Kind.{Kind}
use Rattle.text.specs.declared.kind.Kind.TheVariants.{Upper, Lower, Digit, Hyphen, Dot, Mark, Percent, Slash, Question, Hash, Symbol, Blank, Cr, Lf, Other}

abbrev pub kind_of : ℕ → Kind
kind_of c =
    cond (upper c) Upper
    (cond (between 97 122 c) Lower
    (cond (digit c) Digit
    (cond (c == 45) Hyphen
    (cond (c == 46) Dot
    (cond (c == 95 || c == 126 || c == 33 || c == 36 || between 38 44 c || c == 61 || c == 58 || c == 64) Mark
    (cond (c == 37) Percent
    (cond (c == 47) Slash
    (cond (c == 63) Question
    (cond (c == 35) Hash
    (cond (visible c) Symbol
    (cond (blank c) Blank
    (cond (c == 13) Cr
    (cond (c == 10) Lf Other)))))))))))))

-- the sets of bytes that rules name: of a field's name, of a server's name, of a path as it stands, of a rule's path, of a query, and all that are visible
pub record Sets : Type 0 where
  pub name : Bool
  pub host : Bool
  pub plain : Bool
  pub rule : Bool
  pub query : Bool
  pub visible : Bool

-- the sets that a kind lies in
abbrev pub sets_of : Kind → Sets
sets_of Upper = record { name = true; host = true; plain = true; rule = false; query = true; visible = true }
sets_of Lower = record { name = true; host = true; plain = true; rule = true; query = true; visible = true }
sets_of Digit = record { name = true; host = true; plain = true; rule = true; query = true; visible = true }
sets_of Hyphen = record { name = true; host = true; plain = true; rule = true; query = true; visible = true }
sets_of Dot = record { name = false; host = true; plain = true; rule = true; query = true; visible = true }
sets_of Mark = record { name = false; host = false; plain = true; rule = true; query = true; visible = true }
sets_of Percent = record { name = false; host = false; plain = false; rule = false; query = true; visible = true }
sets_of Slash = record { name = false; host = false; plain = false; rule = false; query = true; visible = true }
sets_of Question = record { name = false; host = false; plain = false; rule = false; query = true; visible = true }
sets_of Hash = record { name = false; host = false; plain = false; rule = false; query = false; visible = true }
sets_of Symbol = record { name = false; host = false; plain = false; rule = false; query = true; visible = true }
sets_of Blank = record { name = false; host = false; plain = false; rule = false; query = false; visible = false }
sets_of Cr = record { name = false; host = false; plain = false; rule = false; query = false; visible = false }
sets_of Lf = record { name = false; host = false; plain = false; rule = false; query = false; visible = false }
sets_of Other = record { name = false; host = false; plain = false; rule = false; query = false; visible = false }

-- the sets that a byte lies in
abbrev pub sets_at : ℕ → Sets
sets_at c = record { name = name_byte c; host = host_byte c; plain = plain_byte c; rule = rule_byte c; query = query_byte c; visible = visible c }
