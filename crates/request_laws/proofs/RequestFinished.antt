-- Once a body is whole, what is found in the memory is what the head as sent and the body mean.
use Rattle.std.proofs.Common.{◌≡◌, ℕ, ◌+◌, ◌-◌, ◌≤◌, true, cond, leb, List, ◌++◌, map, length, take, drop, Ok, Err, Result, sym, refl, ap, ◌∙◌, ap₂, arith}
use Rattle.std.proofs.lemmas.List.{length-take, length-take-le, take_at, drop_at, drop-take}
use Rattle.std.proofs.lemmas.Bool.{cond-true, le-leb, and_from}
use Rattle.text.specs.Bytes.{Text}
use Rattle.message.specs.Fields.{Field}
use Rattle.message.specs.Hops.{field_of, kept_of}
use Rattle.message.specs.Sent.{Sent, ended, more, fields_from, fields_in}
use Rattle.message.specs.declared.fault.Flaw.{Flaw}
use Rattle.request.specs.Canonical.{field_limit}
use Rattle.request.specs.Found.{limited, request_in, with_fields, holds, found_in}
use Rattle.request.specs.Reading.{placed_at, target_in, with_target, on_target, finished}
use Rattle.request.specs.Targets.{check_target, undone}
use Rattle.request.specs.declared.head.Head.{Head}
use Rattle.request.specs.declared.reading.Reading.{Reading}
use Rattle.request.specs.declared.reading.Reading.TheVariants.{InHead, InBody, Whole, Refused}
use Rattle.request_laws.specs.Outcome.{on_fields, on_target as meant, judged_whole}
use Rattle.request_laws.proofs.MemoryPlaced.{part_within, front_within, placed_long, placed_before, placed_there, placed_behind}
use Rattle.request_laws.proofs.TargetShort.{target_short}

-- the parts of a head lie in its text h, and it has all its fields
pub record Lies (head : Head) (h : Text) : Type 0 where
  pub parts : head.method + 1 + head.target ≤ head.fields
  pub fields : head.fields ≤ head.len
  pub long : length h ≡ head.len
  pub sent : List Sent
  pub ends : fields_in field_limit h head.fields ≡ ended sent head.len

-- reading is over
abbrev pub Over : Reading → Type 0
Over (InHead filled) = ⊥
Over (InBody b) = ⊥
Over (Whole head end) = Unit {0}
Over (Refused w) = Unit {0}

-- fields are looked for only from their place on
fields_alike : (k : ℕ) (g h : Text) (start : ℕ) → length g ≡ length h → drop start g ≡ drop start h → fields_in k g start ≡ fields_in k h start
fields_alike k g h start long same = ap₂ (λ n t. cond (leb start n) (fields_from k start t) more) long same

module _ (head : Head) (h body memory : Text) (end : ℕ) (lies : Lies head h) (far : end ≡ head.len + length body) (room : end ≤ length memory) (held : take end memory ≡ h ++ body) where
  abbrev len : ℕ
  len = head.len

  head_held : take len memory ≡ h
  head_held =
      let le : len ≤ end = omega arith in
      front_within len end memory (h ++ body) le held ∙ take_at h body len lies.long

  body_held : take (end - len) (drop len memory) ≡ body
  body_held =
      let sum : len + (end - len) ≡ end = omega arith in
      sym (drop-take len (end - len) memory) ∙ ap (λ n. drop len (take n memory)) sum ∙ ap (drop len) held ∙ drop_at h body len lies.long

  target_held : target_in head memory ≡ target_in head h
  target_held =
      let le : head.method + 1 + head.target ≤ len = omega (arith, lies.parts, lies.fields) in
      sym (part_within head.target (head.method + 1) len memory le) ∙ ap (target_in head) head_held

  module _ (t : Text) (short : length t ≤ head.target) where
    abbrev then : Text
    then = placed_at (head.method + 1) t memory

    in_head : head.method + 1 + length t ≤ head.fields
    in_head = omega (arith, lies.parts)

    in_memory : head.method + 1 + length t ≤ length memory
    in_memory = omega (arith, in_head, lies.fields)

    fields_then : fields_in field_limit (take len then) head.fields ≡ ended lies.sent len
    fields_then =
        let there : len ≤ length memory = omega arith in
        let there-then : len ≤ length then = omega (arith, placed_long (head.method + 1) t memory in_memory) in
        let sum : head.fields + (len - head.fields) ≡ len = omega (arith, lies.fields) in
        let behind : (xs : Text) → drop head.fields (take len xs) ≡ take (len - head.fields) (drop head.fields xs) = λ xs. ap (λ n. drop head.fields (take n xs)) (sym sum) ∙ drop-take head.fields (len - head.fields) xs in
        fields_alike field_limit (take len then) h head.fields (length-take-le len then there-then ∙ sym lies.long)
        (behind then ∙ ap (take (len - head.fields)) (placed_behind (head.method + 1) t memory in_memory head.fields in_head) ∙ sym (behind memory) ∙ ap (drop head.fields) head_held)
        ∙ lies.ends

    request_then : (fs : List Field) → request_in (with_target head (length t)) end then fs ≡ record { method = take head.method h; target = t; fields = kept_of fs; body = body }
    request_then fs =
        let at = head.method + 1 in
        let before : head.method ≤ at = omega arith in
        let below : head.method ≤ len = omega (arith, lies.parts, lies.fields) in
        let past : at + length t ≤ len = omega (arith, in_head, lies.fields) in
        let method : take head.method then ≡ take head.method h = placed_before at t memory in_memory head.method before ∙ front_within head.method len memory h below head_held in
        let target : take (length t) (drop at then) ≡ t = ap (take (length t)) (placed_there at t memory in_memory) ∙ take_at t (drop (at + length t) memory) (length t) refl in
        let rest : take (end - len) (drop len then) ≡ body = ap (take (end - len)) (placed_behind at t memory in_memory len past) ∙ body_held in
        ap (λ m. record { method = m; target = take (length t) (drop at then); fields = kept_of fs; body = take (end - len) (drop len then) }) method
        ∙ ap₂ (λ u b. record { method = take head.method h; target = u; fields = kept_of fs; body = b }) target rest

    holds_then : holds (length then) (with_target head (length t)) end ≡ true
    holds_then =
        let a : head.method + 1 + length t ≤ len = omega (arith, in_head, lies.fields) in
        let b : len ≤ end = omega arith in
        let c : end ≤ length then = omega (arith, placed_long (head.method + 1) t memory in_memory) in
        and_from _ _ (and_from _ _ (le-leb _ _ a) (le-leb _ _ b)) (le-leb _ _ c)

    found_then : found_in (Whole (with_target head (length t)) end) then ≡ Ok (limited head.server len (record { method = take head.method h; target = t; fields = kept_of (map field_of lies.sent); body = body }))
    found_then =
        cond-true _ _ _ holds_then
        ∙ ap (with_fields (with_target head (length t)) end then) fields_then
        ∙ ap (λ q. Ok (limited head.server len q)) (request_then (map field_of lies.sent))

  short : length (undone (target_in head memory)) ≤ head.target
  short = omega (arith, target_short (target_in head memory), length-take head.target (drop (head.method + 1) memory))

  -- what is found in the memory, by what was found of the target
  found_target : (r : Result Unit Flaw) → found_in (on_target head end memory r).reading (on_target head end memory r).memory ≡ Ok (meant head h body r)
  found_target (Err w) = refl
  found_target (Ok u) =
      found_then (undone (target_in head memory)) short
      ∙ ap (λ t. Ok (limited head.server len (record { method = take head.method h; target = undone t; fields = kept_of (map field_of lies.sent); body = body }))) target_held
      ∙ ap (λ f. Ok (on_fields head h body f)) (sym lies.ends)

  pub finished_finds : found_in (finished head end memory).reading (finished head end memory).memory ≡ Ok (judged_whole head h body)
  finished_finds = found_target (check_target (target_in head memory)) ∙ ap (λ t. Ok (meant head h body (check_target t))) target_held

  target_over : (r : Result Unit Flaw) → Over (on_target head end memory r).reading × (length (on_target head end memory r).memory ≡ length memory)
  target_over (Err w) = (tt, refl)
  target_over (Ok u) = (tt, placed_long (head.method + 1) (undone (target_in head memory)) memory (in_memory (undone (target_in head memory)) short))

  -- reading is over, and the memory is as long as it was
  pub finished_over : Over (finished head end memory).reading × (length (finished head end memory).memory ≡ length memory)
  finished_over = target_over (check_target (target_in head memory))
