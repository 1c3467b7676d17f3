-- A test of every byte of a word.
use Rattle.std.proofs.Common.{◌≡◌, ℕ, Bool, true, ◌&&◌, [], ◌∷◌, length, sym, refl, ap, ◌∙◌}
use Rattle.std.specs.List.{list_all}
use Rattle.text.specs.Bytes.{Text, all}
use Rattle.script.specs.Words.{allows, fits, good_word}
use Rattle.script.specs.declared.word.Word.{Word}

all_listed : (p : ℕ → Bool) (t : Text) → all p t ≡ list_all p t
unfolding all
all_listed p [] = refl
all_listed p (c ∷ t) = ap (λ b. p c && b) (all_listed p t)

-- a word of a good length is good where each of its bytes may be in it
pub good_so : (w : Word) (t : Text) (r : Bool) → fits w (length t) ≡ true → r ≡ list_all (allows w) t → r ≡ good_word w t
good_so w t r e f = f ∙ sym (all_listed (allows w) t) ∙ ap (λ b. b && all (allows w) t) (sym e)
