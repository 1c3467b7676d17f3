-- What hearing a piece brings, in the connection's words.
use Rattle.std.proofs.Common.{◌≡◌, ℕ, ◌^◌, ◌<◌, ◌≤◌, true, length, Ok, Err, Result, sym, ◌∙◌, subst}
use Rattle.std.proofs.lemmas.Bool.{cond-true}
use Rattle.text.specs.Bytes.{Text}
use Rattle.message.specs.declared.fault.Unfit.{Unfit}
use Rattle.request.specs.Reading.{memory_size}
use Rattle.response.specs.Reading.{After, fits_in, step, fed_by, fed_of, held_by}
use Rattle.response.specs.declared.reading.Fed.{Fed}
use Rattle.response.specs.declared.reading.Reading.{Reading}
use Rattle.response.specs.declared.reading.Reading.TheVariants.{InHead, InBody, Whole, Unreadable}
use Rattle.connection.specs.Hearing.{Within, Hears}
use Rattle.ear.specs.Ways.{heard_by, heard_of, ear_way}
use Rattle.response_laws.specs.Held.{Held, Brings}
use Rattle.response_laws.proofs.HeadHeard.{held_fits, brings}

-- what is told of a piece
tells : (m part piece : Text) (a : After) (r : Reading) → Brings m part piece a r → Hears ear_way m part piece (record { 0 = r }) a.memory (heard_by r a.taken)
tells m part piece a (InHead n) h = (h.0, h.2)
tells m part piece a (InBody b) h = (h.0, h.2)
tells m part piece a (Whole head end) h = h.0
tells m part piece a Unreadable h = h

within_by : (r : Reading) (taken n : ℕ) → taken ≤ n → Within n (heard_by r taken)
within_by (InHead k) taken n h = tt
within_by (InBody b) taken n h = tt
within_by (Whole head end) taken n h = h
within_by Unreadable taken n h = tt

pub within : (fed : Fed) (n : ℕ) → fed.taken ≤ n → Within n (heard_of fed)
within fed n h = within_by fed.reading fed.taken n h

module _ (m memory piece part : Text) (r : Reading) (size : length memory ≡ memory_size) (h : Held r memory m part) where
  fits : fits_in (length memory) r ≡ true
  fits = held_fits m memory part piece size r h

  -- no piece is refused
  pub not_unfit : {P : Type 0} (u : Unfit) → ◌≡◌ {A = Result Fed Unfit} (Err u) (fed_of m r memory piece) → P
  not_unfit u e =
      let good : fed_of m r memory piece ≡ Ok (fed_by (step m r memory piece)) = cond-true (fits_in (length memory) r) (Ok (fed_by (step m r memory piece))) (Err record {}) fits in
      let no : ◌≡◌ {A = Result Fed Unfit} (Err u) (Ok (fed_by (step m r memory piece))) = e ∙ good in
      cc

  pub hears : length piece < 2 ^ 64 → (fed : Fed) (then : Text) → ◌≡◌ {A = Result Fed Unfit} (Ok fed) (fed_of m r memory piece) → then ≡ held_by m r memory piece → Hears ear_way m part piece (record { 0 = fed.reading }) then (heard_of fed)
  hears counted fed then e g =
      let a = step m r memory piece in
      let good : fed_of m r memory piece ≡ Ok (fed_by a) = cond-true (fits_in (length memory) r) (Ok (fed_by a)) (Err record {}) fits in
      let ok : ◌≡◌ {A = Result Fed Unfit} (Ok fed) (Ok (fed_by a)) = e ∙ good in
      let is : fed ≡ fed_by a = cc in
      let left : then ≡ a.memory = g ∙ cond-true (fits_in (length memory) r) a.memory memory fits in
      let told = tells m part piece a a.reading (brings m memory part piece size r counted h) in
      subst (λ x. Hears ear_way m part piece (record { 0 = fed.reading }) x (heard_of fed)) (sym left) (subst (λ (f : Fed). Hears ear_way m part piece (record { 0 = f.reading }) a.memory (heard_of f)) (sym is) told)
