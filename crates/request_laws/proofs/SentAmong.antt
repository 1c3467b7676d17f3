-- Fields as sent among others: the first that is not of a kind, the only one, with its places and without, and two of them.
use Rattle.std.proofs.Common.{◌≡◌, List, [], ◌∷◌, sym, refl, ap, ◌∙◌, subst}
use mathlib.Core.List.{map-append}
use Rattle.std.specs.List.{AllByRecursion}
use Rattle.message.specs.Fields.{Field}
use Rattle.message.specs.Hops.{field_of}
use Rattle.message.specs.Sent.{Sent}
use Rattle.request_laws.specs.Faults.{AsFields, Twice, FirstOther, OnlySent}
use Rattle.request_laws.specs.Lines.{Only}
use Rattle.request_laws.proofs.Among.{origin}

module _ (P : Field → Type 0) where
  pub other_here : (f : Sent) (fs : List Sent) → FirstOther P (f ∷ fs) f
  other_here f fs = record { before = []; behind = fs; others = tt; joined = refl }

  pub other_later : (g f : Sent) (fs : List Sent) → P (field_of g) → FirstOther P fs f → FirstOther P (g ∷ fs) f
  other_later g f fs h o = record { before = g ∷ o.before; behind = o.behind; others = (h, o.others); joined = ap (λ u. g ∷ u) o.joined }

  pub twice_here : (f g : Sent) (fs : List Sent) → FirstOther P fs g → Twice P (f ∷ fs) f g
  twice_here f g fs o = record { before = []; between = o.before; behind = o.behind; others = (tt, o.others); joined = ap (λ u. f ∷ u) o.joined }

  pub twice_later : (h f g : Sent) (fs : List Sent) → P (field_of h) → Twice P fs f g → Twice P (h ∷ fs) f g
  twice_later h f g fs p o =
      record { before = h ∷ o.before; between = o.between; behind = o.behind; others = ((p, o.others.0), o.others.1); joined = ap (λ u. h ∷ u) o.joined }

  pub sent_here : (f : Sent) (fs : List Sent) → AllByRecursion P (AsFields fs) → OnlySent P (f ∷ fs) f
  sent_here f fs h = record { before = []; behind = fs; others = (tt, h); joined = refl }

  pub sent_later : (g f : Sent) (fs : List Sent) → P (field_of g) → OnlySent P fs f → OnlySent P (g ∷ fs) f
  sent_later g f fs h o = record { before = g ∷ o.before; behind = o.behind; others = ((h, o.others.0), o.others.1); joined = ap (λ u. g ∷ u) o.joined }

  -- the only field of a kind, with its places and without
  pub only_sent : (fs : List Sent) (f : Field) → Only P (AsFields fs) f → (g : Sent) × OnlySent P fs g × (field_of g ≡ f)
  only_sent fs f o =
      let g = origin field_of fs o.before o.behind f o.joined in
      (g.here, record { before = g.front; behind = g.back; others = (subst (AllByRecursion P) (sym g.fronts) o.others.0, subst (AllByRecursion P) (sym g.backs) o.others.1); joined = g.joined }, g.is)

  pub only_field : (fs : List Sent) (f : Sent) → OnlySent P fs f → Only P (AsFields fs) (field_of f)
  only_field fs f o =
      record { before = AsFields o.before; behind = AsFields o.behind; others = o.others; joined = ap AsFields o.joined ∙ map-append field_of o.before (f ∷ o.behind) }
