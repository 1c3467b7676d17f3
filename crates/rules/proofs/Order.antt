-- Rules one after another: the first that fits decides, wherever the count begins.
use Rattle.std.proofs.Common.{◌≡◌, ℕ, ◌+◌, ◌<◌, ◌≤◌, Bool, true, false, cond, T, List, [], ◌∷◌, ◌++◌, length, get_or, drop, sym, refl, ap, ◌∙◌}
use Rattle.std.proofs.lemmas.List.{drop_more, drop_all}
use Rattle.std.proofs.lemmas.Bool.{cond-true, cond-false, both_ways}
use Rattle.text.specs.Bytes.{Text}
use Rattle.text.proofs.Passing.{is_true}
use Rattle.rules.specs.Laws.{LaterRule}
use Rattle.rules.specs.Rules.{Rule, fits, ruling_of, ruled_from, allows, view_rule, view_rules}
use Rattle.rules.specs.declared.Rule.{Rule as Held}
use Rattle.rules.specs.declared.Ruling.{Ruling}
use Rattle.rules.specs.declared.Ruling.TheVariants.{Unruled}
use Rattle.rules.specs.declared.Verdict.{Verdict}
use Rattle.rules.specs.declared.Verdict.TheVariants.{Allow, Deny}

-- the rules from n on: at one that fits, past one that does not, and at their end
rule_one : (rs : List Held) (n : ℕ) (d : Held) (m : Text) (path : List Text) → n < length rs → ruled_from n (view_rules (drop n rs)) m path ≡ cond (fits (view_rule (get_or rs n d)) m path) (ruling_of n (get_or rs n d).verdict) (ruled_from (n + 1) (view_rules (drop (n + 1) rs)) m path)
unfolding ruled_from
rule_one rs n d m path h = ap (λ xs. ruled_from n (view_rules xs) m path) (drop_more rs n d h)

pub rule_fits : (rs : List Held) (n : ℕ) (d : Held) (m : Text) (path : List Text) → n < length rs → true ≡ fits (view_rule (get_or rs n d)) m path → ruled_from n (view_rules (drop n rs)) m path ≡ ruling_of n (get_or rs n d).verdict
rule_fits rs n d m path h e = rule_one rs n d m path h ∙ cond-true (fits (view_rule (get_or rs n d)) m path) _ _ (sym e)

pub rule_passed : (rs : List Held) (n : ℕ) (d : Held) (m : Text) (path : List Text) → n < length rs → false ≡ fits (view_rule (get_or rs n d)) m path → ruled_from n (view_rules (drop n rs)) m path ≡ ruled_from (n + 1) (view_rules (drop (n + 1) rs)) m path
rule_passed rs n d m path h e = rule_one rs n d m path h ∙ cond-false (fits (view_rule (get_or rs n d)) m path) _ _ (sym e)

pub rules_end : (rs : List Held) (n : ℕ) (m : Text) (path : List Text) → length rs ≤ n → ruled_from n (view_rules (drop n rs)) m path ≡ Unruled
unfolding ruled_from
rules_end rs n m path h = ap (λ xs. ruled_from n (view_rules xs) m path) (drop_all n rs h)

-- the verdict does not depend on where the count begins
same_said : (n k : ℕ) (said : Verdict) → allows (ruling_of n said) ≡ allows (ruling_of k said)
same_said n k Allow = refl
same_said n k Deny = refl

-- two ways on from a rule, the same where it fits
either : (fit : Bool) (n k : ℕ) (said : Verdict) (r s : Ruling) → (fit ≡ false → allows r ≡ allows s) → allows (cond fit (ruling_of n said) r) ≡ allows (cond fit (ruling_of k said) s)
either true n k said r s e = same_said n k said
either false n k said r s e = e refl

recount : (n k : ℕ) (us : List Rule) (m : Text) (path : List Text) → allows (ruled_from n us m path) ≡ allows (ruled_from k us m path)
unfolding ruled_from
recount n k [] m path = refl
recount n k (u ∷ us) m path = either (fits u m path) n k u.says (ruled_from (n + 1) us m path) (ruled_from (k + 1) us m path) (λ f. recount (n + 1) (k + 1) us m path)

-- a rule that does not fit can be taken away
without : (n : ℕ) (ws vs : List Rule) (v : Rule) (m : Text) (path : List Text) → fits v m path ≡ false → allows (ruled_from n (ws ++ (v ∷ vs)) m path) ≡ allows (ruled_from n (ws ++ vs) m path)
unfolding ruled_from
without n [] vs v m path e = ap allows (cond-false (fits v m path) (ruling_of n v.says) _ e) ∙ recount (n + 1) n vs m path
without n (w ∷ ws) vs v m path e = either (fits w m path) n n w.says (ruled_from (n + 1) (ws ++ (v ∷ vs)) m path) (ruled_from (n + 1) (ws ++ vs) m path) (λ f. without (n + 1) ws vs v m path e)

-- what does not fit the first rule does not fit the second
fits_less : (a b : Bool) → (T b → T a) → a ≡ false → b ≡ false
fits_less a true f e = absurd (both_ways a e (is_true a (f tt)))
fits_less a false f e = refl

later : (n : ℕ) (us ws vs : List Rule) (u v : Rule) (m : Text) (path : List Text) → (T (fits v m path) → T (fits u m path)) → allows (ruled_from n (us ++ (u ∷ (ws ++ (v ∷ vs)))) m path) ≡ allows (ruled_from n (us ++ (u ∷ (ws ++ vs))) m path)
unfolding ruled_from
later n [] ws vs u v m path f = either (fits u m path) n n u.says (ruled_from (n + 1) (ws ++ (v ∷ vs)) m path) (ruled_from (n + 1) (ws ++ vs) m path) (λ e. without (n + 1) ws vs v m path (fits_less (fits u m path) (fits v m path) f e))
later n (w ∷ us) ws vs u v m path f =
    either (fits w m path) n n w.says (ruled_from (n + 1) (us ++ (u ∷ (ws ++ (v ∷ vs)))) m path) (ruled_from (n + 1) (us ++ (u ∷ (ws ++ vs))) m path) (λ e. later (n + 1) us ws vs u v m path f)

pub later_rule : LaterRule
later_rule us ws vs u v f m path = later 0 us ws vs u v m path (f m path)
