-- The words that a setting is made of.
use Rattle.std.specs.Prelude.{ℕ, Bool, ◌&&◌, length, nat_le}
use Rattle.text.specs.Bytes.{Text, all, upper, host_byte, rule_byte}
use Rattle.script.specs.declared.word.Word.{Word}
use Rattle.script.specs.declared.word.Word.TheVariants.{Name, Method, Part}

-- the bytes that a word is made of: of a server's name letters, digits, hyphens and dots; of a method A to Z; of a part of a rule's path plain bytes, and no capital
abbrev pub allows : Word → ℕ → Bool
allows Name c = host_byte c
allows Method c = upper c
allows Part c = rule_byte c

-- how many bytes it has
abbrev pub fits : Word → ℕ → Bool
fits Name n = nat_le 1 n && nat_le n 253
fits Method n = nat_le 1 n && nat_le n 16
fits Part n = nat_le 1 n

abbrev pub good_word : Word → Text → Bool
good_word w t = fits w (length t) && all (allows w) t
