-- How the first line and the field lines of a head are read, in words of texts joined together. Each is a type; a proof of the type is the theorem.
use Rattle.std.specs.Prelude.{◌≡◌, ℕ, ◌+◌, ◌≤◌, true, not, T, List, ◌∷◌, ◌++◌, map, length, take, drop, Ok, ◌==◌}
use Rattle.text.specs.Bytes.{Text, all}
use Rattle.message.specs.Fields.{Field}
use Rattle.message.specs.Sent.{Sent, ended, fields_from}
use Rattle.message.specs.Hops.{field_of}
use Rattle.request.specs.Canonical.{canonical_method, begins_with_slash, first_line}
use Rattle.request.specs.First.{check_first}
use Rattle.request.specs.declared.first.First.{First}
use Rattle.request_laws.specs.Lines.{LinesSpelled}

-- where the method and the target stand in a first line
abbrev pub method_in : Text → First → Text
method_in l f = take f.method l

abbrev pub target_in : Text → First → Text
target_in l f = take f.target (drop (f.method + 1) l)

-- a method of 1 to 16 capitals, and a target that begins with a slash and has no space
abbrev pub GoodParts : Text → Text → Type 0
GoodParts m t = T (canonical_method m) × T (begins_with_slash t) × T (all (λ c. not (c == 32)) t)

-- the line is the method, the target and the version, and their lengths are as found
pub record FirstSpelled (l : Text) (f : First) : Type 0 where
  pub text : l ≡ first_line (method_in l f) (target_in l f)
  pub parts : GoodParts (method_in l f) (target_in l f)
  pub method : length (method_in l f) ≡ f.method
  pub target : length (target_in l f) ≡ f.target

-- A first line is good exactly where it is a method, a target and the version, with a space between them; and these are found in it.
abbrev pub FirstRead : Type 0
FirstRead =
    ((l : Text) (f : First) → check_first l true ≡ Ok f → FirstSpelled l f)
    × ((m t : Text) → GoodParts m t → check_first (first_line m t) true ≡ Ok (record { method = length m; target = length t }))

-- t, at the place at, is the lines of these fields, at most k, an empty line, which ends at the place end, and a rest
abbrev pub HeadSpelled : ℕ → ℕ → Text → List Sent → ℕ → Type 0
HeadSpelled k at t fs end =
    (lines rest : Text) × (t ≡ lines ++ (13 ∷ 10 ∷ rest)) × LinesSpelled lines (map field_of fs) × (length fs ≤ k) × (end ≡ at + (length lines + 2))

-- in the lines, an empty line and a rest these fields are found, and where the empty line ends
abbrev pub HeadFound : ℕ → ℕ → Text → Text → List Field → Type 0
HeadFound k at lines rest fs = (gs : List Sent) × (fields_from k at (lines ++ (13 ∷ 10 ∷ rest)) ≡ ended gs (at + (length lines + 2))) × (map field_of gs ≡ fs)

-- The fields of a head are found exactly where it begins with the lines of at most k fields and an empty line; and they are those fields.
abbrev pub FieldsRead : Type 0
FieldsRead =
    ((k at : ℕ) (t : Text) (fs : List Sent) (end : ℕ) → fields_from k at t ≡ ended fs end → HeadSpelled k at t fs end)
    × ((k at : ℕ) (lines rest : Text) (fs : List Field) → LinesSpelled lines fs → length fs ≤ k → HeadFound k at lines rest fs)
