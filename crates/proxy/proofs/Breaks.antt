-- Where a client's bytes are broken, its connection ends; and where all of a request has come, something is found.
use Rattle.std.proofs.Common.{◌≡◌, ℕ, ◌≤◌, true, List, length, take, drop, Some, None, Ok, Err, Option, Result, sym, refl, ap, ◌∙◌, subst, ⊎_elim, arith}
use Rattle.std.proofs.lemmas.List.{length-take, take-take}
use Rattle.std.proofs.lemmas.Bool.{cond_both}
use Rattle.text.specs.Bytes.{Text}
use Rattle.message.specs.Bodies.{AtStart, Part, part_of}
use Rattle.message.specs.Chunked.{most_bytes, run}
use Rattle.message.specs.Faults.{ends_client, flaw}
use Rattle.message.specs.Sent.{Sent, Found, ended, fields_in}
use Rattle.message.specs.declared.body.Due.{Due}
use Rattle.message.specs.declared.body.Due.TheVariants.{Length, Chunks}
use Rattle.message.specs.declared.chunked.Outcome.{Outcome as Ran}
use Rattle.message.specs.declared.chunked.Outcome.TheVariants.{More, Whole, Wrong}
use Rattle.message.specs.declared.fault.Fault.TheVariants.{TooLong}
use Rattle.message.specs.declared.fault.Flaw.{Flaw}
use Rattle.message_laws.specs.ChunkFaults.{BadChunk, too_large, malformed as bad_chunk}
use Rattle.message_laws.proofs.Parts.{counted_good}
use Rattle.message_laws.proofs.Refused.{refused as chunks_refused}
use Rattle.request.specs.Canonical.{Req, field_limit}
use Rattle.request.specs.Found.{passed, more, fault, limited}
use Rattle.request.specs.Heads.{window, judged}
use Rattle.request.specs.Reading.{target_in}
use Rattle.request.specs.Targets.{check_target}
use Rattle.request.specs.declared.head.Head.{Head}
use Rattle.request.specs.declared.head.Judged.{Judged}
use Rattle.request_laws.specs.Faults.{LineFault, first, too_many, long_name, malformed, first_unended, unended}
use Rattle.request_laws.specs.Faults.{HeadFault, host, framing, body, HostFault, none, second, unknown, FramingFault, nonsense, BodyFault, unsaid, unwanted, too_long}
use Rattle.request_laws.specs.Outcome.{broken, whole, on_fields, on_target, judged_whole, on_ran, on_due, on_head, outcome}
use Rattle.request_laws.proofs.HeadSound.{sound}
use Rattle.request_laws.proofs.Refused.{refused}

-- WHERE BYTES ARE BROKEN

-- each fault of a line ends the client's connection
line_ends : (w : Text) (v : Flaw) → LineFault w v → ends_client v.fault ≡ true
line_ends w v (first l e p line b) = refl
line_ends w v (too_many l e front full line) = refl
line_ends w v (long_name l e front room line long) = refl
line_ends w v (malformed l e p front room line fits b) = refl
line_ends w v (first_unended full h) = refl
line_ends w v (unended front full h) = refl

-- and so does each fault of a host
host_ends : (names : List Text) (fs : List Sent) (len : ℕ) (v : Flaw) → HostFault names fs len v → ends_client v.fault ≡ true
host_ends names fs len v (none h) = refl
host_ends names fs len v (second f g t a b) = refl
host_ends names fs len v (unknown f o a h) = refl

-- of a length or an encoding
framing_ends : (fs : List Sent) (v : Flaw) → FramingFault fs v → ends_client v.fault ≡ true
framing_ends fs v (nonsense f o a h) = refl
framing_ends fs v (second f g size t s a) = refl

-- of what is said of a body
body_ends : (m : Text) (fs : List Sent) (len : ℕ) (v : Flaw) → BodyFault m fs len v → ends_client v.fault ≡ true
body_ends m fs len v (unsaid b u) = refl
body_ends m fs len v (unwanted f size b o s) = refl
body_ends m fs len v (too_long f n b o s h) = refl

-- these are the faults of a whole head
head_ends : (names : List Text) (w : Text) (v : Flaw) → HeadFault names w v → ends_client v.fault ≡ true
head_ends names w v (host {fs} {len} head h) = host_ends names fs len v h
head_ends names w v (framing {fs} k head s h) = framing_ends fs v h
head_ends names w v (body {m} {fs} {len} k head s said h) = body_ends m fs len v h

-- and each of a chunked body
chunk_ends : (room at : ℕ) (t : Text) (v : Flaw) → BadChunk room at t v → ends_client v.fault ≡ true
chunk_ends room at t v (too_large h) = refl
chunk_ends room at t v (bad_chunk p h there b) = refl

-- bytes are broken behind a head that is let pass only where the body is wrong
ran_wrong : (head : Head) (s : Text) (p : Part) (w : Flaw) (o : Ran) → on_ran head s p o ≡ broken w → o ≡ Wrong w
ran_wrong head s p w More e = absurd cc
ran_wrong head s p w Whole e = absurd cc
ran_wrong head s p w (Wrong v) e = cc

-- and a body is wrong only where its chunks break
due_ends : (head : Head) (s : Text) (w : Flaw) (due : Due) → AtStart head.len due → on_due head s due ≡ broken w → ends_client w.fault ≡ true
due_ends head s w (Length n) start e =
    let t = drop head.len s in
    absurd (counted_good n t w (ran_wrong head s (part_of (Length n) t) w (part_of (Length n) t).outcome e))
due_ends head s w (Chunks c) start e =
    let t = drop head.len s in
    let wrong : (run c t).outcome ≡ Wrong w = ran_wrong head s (part_of (Chunks c) t) w (run c t).outcome e in
    let breaks = (chunks_refused most_bytes head.len t w).0 (subst (λ d. (run d t).outcome ≡ Wrong w) start wrong) in
    chunk_ends _ _ _ w breaks.wrong

-- what was judged of the head, r, is a fault of a line or of the head, or the body comes next
judged_ends : (names : List Text) (s : Text) (w : Flaw) (r : Result (Option Judged) Flaw) →
    judged names (take window s) ≡ r → on_head s r ≡ broken w → ends_client w.fault ≡ true
judged_ends names s w (Err v) j e =
    let same : v ≡ w = cc in
    let few : length (take window s) ≤ window = omega (arith, length-take window s) in
    ⊎_elim (line_ends (take window s) w) (head_ends names (take window s) w) ((refused names (take window s) w few).0 (j ∙ ap Err same))
judged_ends names s w (Ok None) j e = absurd cc
judged_ends names s w (Ok (Some i)) j e = due_ends i.head s w i.due (sound names (take window s) i j).due e

-- where a client's bytes are broken, its connection ends
pub broken_ends : (names : List Text) (s : Text) (w : Flaw) → outcome names s ≡ broken w → ends_client w.fault ≡ true
broken_ends names s w e = judged_ends names s w (judged names (take window s)) refl e

-- WHERE ALL OF A REQUEST HAS COME

-- a request whose canonical head is judged by its length is let pass or refused
limited_found : (server len : ℕ) (q : Req) → limited server len q ≡ more → ⊥
limited_found server len q = cond_both _ (passed server q) (fault (flaw TooLong len)) (λ x. x ≡ more → ⊥) (λ _ e. cc) (λ _ e. cc)

-- and so is one whose fields have ended
fields_found : (head : Head) (h b : Text) (fs : List Sent) (end : ℕ) (x : Found) → x ≡ ended fs end → on_fields head h b x ≡ more → ⊥
fields_found head h b fs end x is e = limited_found _ _ _ (ap (on_fields head h b) (sym is) ∙ e)

-- whatever its target is
target_found : (head : Head) (h b : Text) (fs : List Sent) (end : ℕ) (r : Result Unit Flaw) →
    fields_in field_limit h head.fields ≡ ended fs end → on_target head h b r ≡ more → ⊥
target_found head h b fs end (Err w) is e = cc
target_found head h b fs end (Ok u) is e = fields_found head h b fs end (fields_in field_limit h head.fields) is e

-- something is found behind a head only where the body is whole
ran_found : (head : Head) (s : Text) (p : Part) (n : ℕ) (o : Ran) → on_ran head s p o ≡ whole more n → judged_whole head (take head.len s) p.body ≡ more
ran_found head s p n More e = absurd cc
ran_found head s p n Whole e = cc
ran_found head s p n (Wrong v) e = absurd cc

-- of a head that is let pass the fields have ended
judged_found : (names : List Text) (s : Text) (n : ℕ) (r : Result (Option Judged) Flaw) → judged names (take window s) ≡ r → on_head s r ≡ whole more n → ⊥
judged_found names s n (Err v) j e = cc
judged_found names s n (Ok None) j e = cc
judged_found names s n (Ok (Some i)) j e =
    let known = sound names (take window s) i j in
    let head = i.head in
    let p = part_of i.due (drop head.len s) in
    let short : head.len ≤ window = omega (arith, known.within, length-take window s) in
    let front : take head.len (take window s) ≡ take head.len s = take-take head.len window s short in
    let h = take head.len s in
    let ends : fields_in field_limit h head.fields ≡ ended known.sent head.len = ap (λ u. fields_in field_limit u head.fields) (sym front) ∙ known.ends in
    target_found head h p.body known.sent head.len (check_target (target_in head h)) ends (ran_found head s p n p.outcome e)

-- where all of a request has come, something is found: it is let pass, or it has a fault
pub whole_found : (names : List Text) (s : Text) (n : ℕ) → outcome names s ≡ whole more n → ⊥
whole_found names s n e = judged_found names s n (judged names (take window s)) refl e
