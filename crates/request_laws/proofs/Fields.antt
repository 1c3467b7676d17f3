-- A field line is read as the grammar says.
use Rattle.std.proofs.Common.{◌≡◌, ℕ, zero, suc, ◌+◌, ◌<◌, ◌≤◌, Bool, true, false, not, ◌||◌, T, eqb, ltb, leb, [], ◌∷◌, ◌++◌, length, take, drop, IfOk, Ok, sym, refl, ap, ◌∙◌, subst, ap₂, append-nil, arith}
use Rattle.std.specs.List.{prefix_len}
use Rattle.std.proofs.lemmas.Result.{IfOk-at_ok}
use Rattle.std.proofs.lemmas.Bool.{cond_both, false≢true, ne_eqb, lt-leb, le-ltb, eqb-false, leb-false, ltb-false, not-false, or_parts}
use Rattle.std.proofs.lemmas.List.{length-append, length-drop, length-take-le, take_all, take_at, take-append-drop, drop_at, drop-drop, drop_more}
use Rattle.text.specs.Bytes.{Text, name_byte, value_byte, all, nonempty, clean}
use Rattle.text.specs.Marks.{before}
use Rattle.text.specs.Trims.{trimmed}
use Rattle.text.proofs.Passing.{all_weaker, all_append, clean_by, differs}
use Rattle.text_laws.proofs.Fronts.{leading_at}
use Rattle.text_laws.proofs.Ends.{trims}
use Rattle.message.specs.Fields.{Field, name_limit}
use Rattle.message.specs.Hops.{field_of}
use Rattle.message.specs.Sent.{check_at, check_field, check_line, sent_at}
use Rattle.request_laws.specs.Lines.{FieldSpelled}
use Rattle.request_laws.proofs.Leads.{all_leading, leads, mark_at, nonempty_by, nonempty_long}

-- what the tests of a field line that is good say
pub record Good (l : Text) (ended : Bool) (n g v colon : ℕ) : Type 0 where
  pub is : colon ≡ n
  pub few : n ≤ name_limit
  pub some : 0 < n
  pub name : n ≤ g
  pub inside : n < length l
  pub value : length l ≤ v
  pub whole : ended ≡ true

pub good : (at : ℕ) (l : Text) (ended : Bool) (n g v : ℕ) → IfOk (check_at at l ended n g v) (Good l ended n g v)
good at l ended n g v =
    let P : _ → Type 0 = λ r. IfOk r (Good l ended n g v) in
    cond_both (ltb name_limit n) _ _ P (λ _. tt) (λ a.
    cond_both (eqb n 0) _ _ P (λ _. tt) (λ b.
    cond_both (ltb g n || leb (length l) n) _ _ P (λ _. tt) (λ c.
    cond_both (ltb v (length l) || not ended) _ _ P (λ _. tt) (λ d.
    let no = eqb-false n 0 b in
    let c' = or_parts (ltb g n) (leb (length l) n) c in
    let d' = or_parts (ltb v (length l)) (not ended) d in
    record {
      is = refl;
      few = ltb-false name_limit n a;
      some = omega (arith, no);
      name = ltb-false g n c'.0;
      inside = leb-false (length l) n c'.1;
      value = ltb-false v (length l) d'.0;
      whole = not-false ended d'.1;
    }))))

-- a text in which nothing fails a test
all_by : (p : ℕ → Bool) (t : Text) → length t ≤ prefix_len p t → T (all p t)
all_by p t h = rw (take_all (prefix_len p t) t h) at (all_leading p t)

-- a good line is a field's line
pub field_read : (at : ℕ) (l : Text) (n : ℕ) → check_field at l true ≡ Ok n → FieldSpelled l (field_of (sent_at at n l))
field_read at l colon e =
    let n = before 58 l in
    let g = prefix_len name_byte l in
    let d = drop (n + 1) l in
    let v = n + 1 + prefix_len value_byte d in
    let k = IfOk-at_ok (Good l true n g v) e (good at l true n g v) in
    let inside : n < length l = k.inside in
    let name-long : length (take n l) ≡ n = length-take-le n l (omega arith) in
    let front : drop n l ≡ 58 ∷ d = drop_more l n 0 inside ∙ ap (λ c. c ∷ d) (mark_at 58 l inside) in
    subst (λ m. FieldSpelled l (field_of (sent_at at m l))) (sym k.is) (record {
      behind = d;
      named = (nonempty_by (take n l) (omega (arith, k.some)), omega (arith, k.few), (leads name_byte l n k.name).0);
      bytes = all_by value_byte d (simp length-drop (omega (arith, k.value)));
      trims = (trims d (trimmed d)).0 refl;
      text = sym (take-append-drop n l) ∙ ap (λ u. take n l ++ u) front;
    })

-- the colon stands inside the line
pub field_colon : (at : ℕ) (l : Text) (n : ℕ) → check_field at l true ≡ Ok n → length (take n l) ≡ n
field_colon at l colon e =
    let n = before 58 l in
    let g = prefix_len name_byte l in
    let v = n + 1 + prefix_len value_byte (drop (n + 1) l) in
    let k = IfOk-at_ok (Good l true n g v) e (good at l true n g v) in
    length-take-le colon l (omega (arith, k.inside, k.is))

-- a line that passes the tests is good
passes : (at : ℕ) (l : Text) (n v : ℕ) → n ≤ name_limit → 0 < n → n < length l → length l ≤ v → check_at at l true n n v ≡ Ok n
passes at l n v few some inside value =
    let a : eqb n 0 ≡ false = ne_eqb n 0 (omega arith) in
    let b : ltb n n ≡ false = le-ltb n n (omega arith) in
    rw (le-ltb name_limit n few, a, b, lt-leb (length l) n inside, le-ltb v (length l) value)

-- a byte of a name is no colon
no_colon : (c : ℕ) → T (name_byte c) → T (not (eqb c 58))
no_colon c h = rw (differs name_byte 58 c refl h) tt

-- what stands behind the colon
behind_colon : (l : Text) (f : Field) (s : FieldSpelled l f) → drop (length f.name + 1) l ≡ s.behind
behind_colon l f s =
    let n = length f.name in
    sym (drop-drop 1 n l) ∙ ap (λ u. drop 1 (drop n u)) s.text ∙ ap (drop 1) (drop_at f.name (58 ∷ s.behind) n refl)

-- a field's line is good, and its field is found
pub field_spelled : (at : ℕ) (l : Text) (f : Field) → FieldSpelled l f → (check_field at l true ≡ Ok (length f.name)) × (field_of (sent_at at (length f.name) l) ≡ f)
field_spelled at l f s =
    let n = length f.name in
    let b = s.behind in
    let rest = behind_colon l f s in
    let long : length l ≡ n + (1 + length b) = ap length s.text ∙ simp length-append (omega arith) in
    let colon : before 58 l ≡ n = ap (before 58) s.text ∙ leading_at (λ c. not (eqb c 58)) f.name (58 ∷ b) (all_weaker name_byte (λ c. not (eqb c 58)) no_colon f.name s.named.2) tt in
    let named : prefix_len name_byte l ≡ n = ap (prefix_len name_byte) s.text ∙ leading_at name_byte f.name (58 ∷ b) s.named.2 tt in
    let value : prefix_len value_byte b ≡ length b = ap (prefix_len value_byte) (sym (append-nil b)) ∙ leading_at value_byte b [] s.bytes tt in (
      ap (λ m. check_at at l true m (prefix_len name_byte l) (m + 1 + prefix_len value_byte (drop (m + 1) l))) colon
          ∙ ap (λ g. check_at at l true n g (n + 1 + prefix_len value_byte (drop (n + 1) l))) named
          ∙ ap (λ u. check_at at l true n n (n + 1 + prefix_len value_byte u)) rest
          ∙ ap (λ w. check_at at l true n n (n + 1 + w)) value
          ∙ passes at l n (n + 1 + length b) s.named.1 (nonempty_long f.name s.named.0) (omega arith) (omega arith),
      ap₂ (λ a v. record { name = a; value = v }) (ap (take n) s.text ∙ take_at f.name (58 ∷ b) n refl) (ap trimmed rest ∙ (trims b f.value).1 s.trims),
    )

-- a field's line has no CR, no LF and some byte
pub field_clean : (l : Text) (f : Field) → FieldSpelled l f → T (clean l) × T (nonempty l)
field_clean l f s =
    let name = clean_by name_byte refl refl f.name s.named.2 in
    let value : T (clean (58 ∷ s.behind)) = unfold all in clean_by value_byte refl refl s.behind s.bytes in
    let long : 0 < length l = rw (s.text, length-append) (omega (arith, nonempty_long f.name s.named.0)) in
    (rw s.text (all_append _ f.name (58 ∷ s.behind) name value), nonempty_by l long)

-- a line that a stray byte cuts off is never good
pub stray_field : (at : ℕ) (l : Text) (n : ℕ) → check_field at l false ≡ Ok n → ⊥
stray_field at l n e =
    let m = before 58 l in
    let g = prefix_len name_byte l in
    let v = m + 1 + prefix_len value_byte (drop (m + 1) l) in
    false≢true (IfOk-at_ok (Good l false m g v) e (good at l false m g v)).whole

pub field_stray : (k at : ℕ) (l : Text) (n : ℕ) → check_line k at l false ≡ Ok n → ⊥
unfolding check_line
field_stray zero at l n e = IfOk-at_ok (λ _. ⊥) e tt
field_stray (suc k) at l n e = stray_field at l n e
