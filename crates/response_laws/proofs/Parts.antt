-- The body behind a response's head is read exactly where it is spelled as the grammar says.
use Rattle.std.proofs.Common.{◌≡◌, ℕ, ◌<◌, ◌≤◌, not, T, ltb, List, [], ◌++◌, length, take, drop, Some, None, Option, sym, refl, ap, ◌∙◌, arith}
use Rattle.std.proofs.lemmas.Bool.{cond_both, cond-false, le-ltb, ltb-false}
use Rattle.std.proofs.lemmas.List.{length-append, length-take-le, take_at, take-append-drop}
use Rattle.text.specs.Bytes.{Text}
use Rattle.text.proofs.Passing.{is_true, is_false}
use Rattle.message.specs.Bodies.{Part, counted, part_of}
use Rattle.message.specs.Chunked.{most_bytes, fresh, run}
use Rattle.message.specs.Fields.{Field}
use Rattle.message.specs.declared.body.Due.{Due}
use Rattle.message.specs.declared.body.Due.TheVariants.{Length, Chunks}
use Rattle.message.specs.declared.chunked.Outcome.TheVariants.{Whole}
use Rattle.message_laws.proofs.Bodies.{read}
use Rattle.request.specs.Canonical.{body_limit}
use Rattle.request_laws.proofs.BodyRead.{chunks_cut}
use Rattle.request_laws.proofs.FramingFaults.{most_is}
use Rattle.response.specs.Copies.{body_bytes}
use Rattle.response.specs.Found.{body_if}
use Rattle.response.specs.Status.{has_body}
use Rattle.response.specs.declared.status.Status.{Status}
use Rattle.response_laws.specs.Grammar as grammar
use Rattle.response_laws.specs.Grammar.{BodySpelled}
use Rattle.response_laws.proofs.Dues as dues
use Rattle.response_laws.proofs.Dues.{DueAs}

-- the most bytes that a body may have
few_bytes : (n : ℕ) → n ≤ most_bytes → n < body_limit
few_bytes n h = omega (arith, most_is)

most_bytes_so : (n : ℕ) → n < body_limit → n ≤ most_bytes
most_bytes_so n h = omega (arith, most_is)

-- so many bytes that are all there
abbrev all_of : ℕ → Text → Part
all_of n x = record { due = Length 0; body = take n x; taken = n; outcome = Whole }

counted_there : (n : ℕ) (x : Text) → n ≤ length x → counted n x ≡ all_of n x
counted_there n x h = cond-false (ltb (length x) n) _ (all_of n x) (le-ltb (length x) n h)

counted_whole : (n : ℕ) (x : Text) → (counted n x).outcome ≡ Whole → n ≤ length x
counted_whole n x = cond_both (ltb (length x) n) _ (all_of n x) (λ p. p.outcome ≡ Whole → n ≤ length x) (λ h e. cc) (λ h e. ltb-false (length x) n h)

-- the bytes x begin with a body as the grammar has it, and this part of them was read as it
pub record PartIs (m : Text) (s : Status) (fs : List Field) (x : Text) (p : Part) : Type 0 where
  pub body : Option Text
  pub after : Text
  pub rest : Text
  pub joined : x ≡ after ++ rest
  pub spelled : BodySpelled m s fs after body
  pub short : length (body_bytes body) < body_limit
  pub is : body_if (has_body s m) p.body ≡ body
  pub left : drop p.taken x ≡ rest

-- where a body follows, it is there; where none does, there is none
some_body : (m : Text) (s : Status) (b : Text) → T (has_body s m) → body_if (has_body s m) b ≡ Some b
some_body m s b h = ap (λ c. body_if c b) (is_true (has_body s m) h)

no_body : (m : Text) (s : Status) (b : Text) → T (not (has_body s m)) → body_if (has_body s m) b ≡ None
no_body m s b h = ap (λ c. body_if c b) (is_false (has_body s m) h)

-- what is read is as the grammar has it
pub part_read : (m : Text) (s : Status) (fs : List Field) (x : Text) (due : Due) → DueAs m s fs due → (part_of due x).outcome ≡ Whole →
    PartIs m s fs x (part_of due x)
part_read m s fs x due (dues.none b d) e =
    let is : part_of due x ≡ all_of 0 x = ap (λ u. part_of u x) d ∙ counted_there 0 x (omega arith) in
    rw is (record {
      body = None;
      after = [];
      rest = x;
      joined = refl;
      spelled = grammar.none b;
      short = omega arith;
      is = no_body m s [] b;
      left = refl;
    })
part_read m s fs x due (dues.sized f n b o a v l d) e =
    let there : n ≤ length x = counted_whole n x (rw d at e) in
    let is : part_of due x ≡ all_of n x = ap (λ u. part_of u x) d ∙ counted_there n x there in
    let t = take n x in
    let long : length t ≡ n = length-take-le n x there in
    rw is (record {
      body = Some t;
      after = t;
      rest = drop n x;
      joined = sym (take-append-drop n x);
      spelled = grammar.sized f b o a (v ∙ ap Some (sym long));
      short = rw long (few_bytes n l);
      is = some_body m s t b;
      left = refl;
    })
part_read m s fs x due (dues.chunked f b o a v d) e =
    let r = run (fresh most_bytes 0) x in
    let k = chunks_cut x most_bytes 0 (rw d at e) in
    rw d (record {
      body = Some r.body;
      after = take r.taken x;
      rest = drop r.taken x;
      joined = sym (take-append-drop r.taken x);
      spelled = grammar.chunked f b o a v k.0;
      short = few_bytes (length r.body) k.1;
      is = some_body m s r.body b;
      left = refl;
    })

-- all of a body is read, and no byte more
pub record PartReads (m : Text) (s : Status) (body : Option Text) (after : Text) (p : Part) : Type 0 where
  pub whole : p.outcome ≡ Whole
  pub is : body_if (has_body s m) p.body ≡ body
  pub count : p.taken ≡ length after

-- a body as the grammar has it is read so
pub part_spelled : (m : Text) (s : Status) (fs : List Field) (after rest : Text) (body : Option Text) → BodySpelled m s fs after body →
    length (body_bytes body) < body_limit →
    (due : Due) × DueAs m s fs due × PartReads m s body after (part_of due (after ++ rest))
part_spelled m s fs after rest body (grammar.none b) l =
    (Length 0, dues.none b refl, rw (counted_there 0 rest (omega arith)) (record { whole = refl; is = no_body m s [] b; count = refl }))
part_spelled m s fs after rest body (grammar.sized {b = t} f b o a v) l =
    let there : length t ≤ length (t ++ rest) = rw (length-append t rest) (omega arith) in (
      Length (length t),
      dues.sized f (length t) b o a v (most_bytes_so (length t) l) refl,
      rw (counted_there (length t) (t ++ rest) there) (record { whole = refl; is = some_body m s _ b ∙ ap Some (take_at t rest (length t) refl); count = refl }),
    )
part_spelled m s fs after rest body (grammar.chunked {b = t} f b o a v c) l = (
  Chunks (fresh most_bytes 0),
  dues.chunked f b o a v refl,
  rw (read after t rest most_bytes 0 c (most_bytes_so (length t) l)) (record { whole = refl; is = some_body m s t b; count = refl }),
)
