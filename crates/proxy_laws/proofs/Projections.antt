-- What happened, seen from one client or one server, where more happens.
use Rattle.std.proofs.Common.{◌≡◌, ◌≢◌, ℕ, zero, suc, cond, List, [], ◌∷◌, ◌++◌, map, length, Some, sym, refl, ap, ◌∙◌, append_assoc, append-nil}
use Rattle.std.specs.Prelude.{◌==◌, slice_get}
use Rattle.std.proofs.lemmas.Bool.{eq-eqb, ne_eqb}
use Rattle.request.specs.Canonical.{write, writes}
use Rattle.connection.specs.Model.{Sent}
use Rattle.proxy_laws.specs.Traces.{Entry, sent_in, sent_by, out_for, outs_for, event_in, events_at, said_in_one, said_by, asked_in, asked_of, bytes_of, got_in, got_from, told_in, told_by, downs_in, downs_of}

-- WHERE MORE HAPPENS, it comes behind what happened before

pub sent_more : (c : ℕ) (es xs : List Entry) → sent_by c (es ++ xs) ≡ sent_by c es ++ sent_by c xs
unfolding sent_by
sent_more c [] xs = refl
sent_more c (x ∷ es) xs = ap (λ t. sent_in c x ++ t) (sent_more c es xs) ∙ sym (append_assoc (sent_in c x) (sent_by c es) (sent_by c xs))

pub outs_more : (c : ℕ) (es xs : List Entry) → outs_for c (es ++ xs) ≡ outs_for c es ++ outs_for c xs
unfolding outs_for
outs_more c [] xs = refl
outs_more c (x ∷ es) xs = ap (λ t. out_for c x ++ t) (outs_more c es xs) ∙ sym (append_assoc (out_for c x) (outs_for c es) (outs_for c xs))

pub said_more : (k : ℕ) (es xs : List Entry) → said_by k (es ++ xs) ≡ said_by k es ++ said_by k xs
unfolding said_by
said_more k [] xs = refl
said_more k (x ∷ es) xs = ap (λ t. said_in_one k x ++ t) (said_more k es xs) ∙ sym (append_assoc (said_in_one k x) (said_by k es) (said_by k xs))

pub events_more : (k : ℕ) (es xs : List Entry) → events_at k (es ++ xs) ≡ events_at k es ++ events_at k xs
unfolding events_at
events_more k [] xs = refl
events_more k (x ∷ es) xs = ap (λ t. event_in k x ++ t) (events_more k es xs) ∙ sym (append_assoc (event_in k x) (events_at k es) (events_at k xs))

pub asked_more : (k : ℕ) (es xs : List Entry) → asked_of k (es ++ xs) ≡ asked_of k es ++ asked_of k xs
unfolding asked_of
asked_more k [] xs = refl
asked_more k (x ∷ es) xs = ap (λ t. asked_in k x ++ t) (asked_more k es xs) ∙ sym (append_assoc (asked_in k x) (asked_of k es) (asked_of k xs))

pub got_more : (k : ℕ) (es xs : List Entry) → got_from k (es ++ xs) ≡ got_from k es ++ got_from k xs
unfolding got_from
got_more k [] xs = refl
got_more k (x ∷ es) xs = ap (λ t. got_in k x ++ t) (got_more k es xs) ∙ sym (append_assoc (got_in k x) (got_from k es) (got_from k xs))

pub told_more : (k : ℕ) (es xs : List Entry) → told_by k (es ++ xs) ≡ told_by k es ++ told_by k xs
unfolding told_by
told_more k [] xs = refl
told_more k (x ∷ es) xs = ap (λ t. told_in k x ++ t) (told_more k es xs) ∙ sym (append_assoc (told_in k x) (told_by k es) (told_by k xs))

pub downs_more : (k : ℕ) (es xs : List Entry) → downs_of k (es ++ xs) ≡ downs_of k es ++ downs_of k xs
unfolding downs_of
downs_more k [] xs = refl
downs_more k (x ∷ es) xs = ap (λ t. downs_in k x ++ t) (downs_more k es xs) ∙ sym (append_assoc (downs_in k x) (downs_of k es) (downs_of k xs))

-- ONE THING MORE

pub sent_one : (c : ℕ) (x : Entry) → sent_by c (x ∷ []) ≡ sent_in c x
unfolding sent_by
sent_one c x = append-nil (sent_in c x)

pub outs_one : (c : ℕ) (x : Entry) → outs_for c (x ∷ []) ≡ out_for c x
unfolding outs_for
outs_one c x = append-nil (out_for c x)

pub said_one : (k : ℕ) (x : Entry) → said_by k (x ∷ []) ≡ said_in_one k x
unfolding said_by
said_one k x = append-nil (said_in_one k x)

pub events_one : (k : ℕ) (x : Entry) → events_at k (x ∷ []) ≡ event_in k x
unfolding events_at
events_one k x = append-nil (event_in k x)

pub asked_one : (k : ℕ) (x : Entry) → asked_of k (x ∷ []) ≡ asked_in k x
unfolding asked_of
asked_one k x = append-nil (asked_in k x)

pub got_one : (k : ℕ) (x : Entry) → got_from k (x ∷ []) ≡ got_in k x
unfolding got_from
got_one k x = append-nil (got_in k x)

pub told_one : (k : ℕ) (x : Entry) → told_by k (x ∷ []) ≡ told_in k x
unfolding told_by
told_one k x = append-nil (told_in k x)

pub downs_one : (k : ℕ) (x : Entry) → downs_of k (x ∷ []) ≡ downs_in k x
unfolding downs_of
downs_one k x = append-nil (downs_in k x)

-- and two
pub outs_two : (c : ℕ) (x y : Entry) → outs_for c (x ∷ y ∷ []) ≡ out_for c x ++ out_for c y
unfolding outs_for
outs_two c x y = ap (λ t. out_for c x ++ t) (append-nil (out_for c y))

-- BY WHOSE IT IS

-- of its own, and of somebody else's
module _ {A : Type 0} (j k : ℕ) (x y : A) where
  pub own : j ≡ k → cond (j == k) x y ≡ x
  own e = ap (λ b. cond b x y) (eq-eqb j k e)

  pub other : j ≢ k → cond (j == k) x y ≡ y
  other n = ap (λ b. cond b x y) (ne_eqb j k n)

-- the bytes of requests, written one after the other
pub bytes_written : (xs : List Sent) → writes (map (λ x. x.request) xs) ≡ bytes_of xs
unfolding writes bytes_of
bytes_written [] = refl
bytes_written (x ∷ xs) = ap (λ t. write x.request ++ t) (bytes_written xs)

-- WHAT A LIST HAS at a place, with more behind it
module _ {A : Type 0} where
  pub stays_at : (xs ys : List A) (i : ℕ) (x : A) → slice_get xs i ≡ Some x → slice_get (xs ++ ys) i ≡ Some x
  stays_at [] ys i x h = cc
  stays_at (z ∷ xs) ys zero x h = h
  stays_at (z ∷ xs) ys (suc i) x h = stays_at xs ys i x h

  pub last_at : (xs : List A) (x : A) → slice_get (xs ++ (x ∷ [])) (length xs) ≡ Some x
  last_at [] x = refl
  last_at (z ∷ xs) x = last_at xs x
