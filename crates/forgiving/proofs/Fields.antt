-- Fields, read one by one from lines of which some go on with others.
use Rattle.std.proofs.Common.{◌≡◌, ℕ, suc, ◌+◌, ◌-◌, ◌<◌, ◌≤◌, Bool, true, false, cond, List, [], ◌∷◌, ◌++◌, length, take, drop, get_or, flat_map, Some, None, Option, refl, sym, ap, ap₂, ◌∙◌, append_assoc, append-nil, arith}
use Rattle.std.specs.List.{prefix_len}
use Rattle.std.specs.Option.{option_map}
use Rattle.std.specs.Borrow.{Bor}
use Rattle.std.proofs.lemmas.List.{take_rest, take-map, drop-map, length-drop}
use Rattle.text.specs.Bytes.{Text}
use Rattle.text.specs.Marks.{cut_at}
use Rattle.message.specs.Fields.{Field}
use Rattle.reader.specs.Reader.{Fields, NotAny, Many}
use Rattle.reader.specs.Strict.{field_of, one_more, read_fields}
use Rattle.forgiving.specs.Readers.{fields_by, goes_on, joined_on, joined, reader_with}
use Rattle.forgiving.specs.Parts.{name_by, going_by, field_by}
use Rattle.forgiving.specs.Held.{texts}
use Rattle.forgiving.specs.declared.habit.Habit.{Habit}
use Rattle.forgiving.specs.declared.habit.Habit.TheVariants.{LoneLf, LoneCr, EmptyLines, SpaceBeforeColon, LowLine, GoesOn, Octal, FirstLength, LastLength, AddedLengths, GetBody, NoChunks, UndoneTwice, CutParts}

-- how many texts in front pass a test
pub prefix_texts : (p : Text → Bool) (ls : List (Bor Text)) → prefix_len (λ l. p l.now) ls ≡ prefix_len p (texts ls)
prefix_texts p [] = refl
prefix_texts p (l ∷ ls) = ap (λ n. cond (p l.now) (1 + n) 0) (prefix_texts p ls)

-- the lines that are read, by the habit
abbrev joined_by : Habit → List Text → List Text
joined_by GoesOn ls = joined ls
joined_by h ls = ls

-- all of the fields in some lines
abbrev pub fields_at : Habit → List Text → Fields
fields_at h ls = fields_by (name_by h) (joined_by h ls)

unnamed : (o : Option (Text × Text)) → option_map (λ p. (p.0, p.1)) o ≡ o
unnamed None = refl
unnamed (Some p) = refl

strictly : (ls : List Text) → read_fields ls ≡ fields_by (λ n. n) ls
unfolding read_fields fields_by
strictly [] = refl
strictly (l ∷ ls) = ap₂ (λ o fs. one_more (field_of o) fs) (sym (unnamed (cut_at 58 l))) (strictly ls)

pub fields_with : (h : Habit) (ls : List Text) → (reader_with h).fields ls ≡ fields_at h ls
fields_with LoneLf ls = strictly ls
fields_with LoneCr ls = strictly ls
fields_with EmptyLines ls = strictly ls
fields_with SpaceBeforeColon ls = refl
fields_with LowLine ls = refl
fields_with GoesOn ls = strictly (joined ls)
fields_with Octal ls = strictly ls
fields_with FirstLength ls = strictly ls
fields_with LastLength ls = strictly ls
fields_with AddedLengths ls = strictly ls
fields_with GetBody ls = strictly ls
fields_with NoChunks ls = strictly ls
fields_with UndoneTwice ls = strictly ls
fields_with CutParts ls = strictly ls

-- a line takes in those that go on with it
abbrev all_of : List Text → Text
all_of ts = flat_map (λ t. t) ts

one_front : (b : Bool) (l m : Text) (ms : List Text) (n : ℕ) → joined_on (l ++ m) ms ≡ ((l ++ m) ++ all_of (take n ms)) ∷ joined (drop n ms) →
    cond b (joined_on (l ++ m) ms) (l ∷ joined_on m ms) ≡ (l ++ all_of (take (cond b (1 + n) 0) (m ∷ ms))) ∷ joined (drop (cond b (1 + n) 0) (m ∷ ms))
one_front true l m ms n e =
    let next : 1 + n ≡ suc n = omega arith in
    rw next (e ∙ ap (λ t. t ∷ joined (drop n ms)) (append_assoc l m (all_of (take n ms))))
one_front false l m ms n e = ap (λ t. t ∷ joined_on m ms) (sym (append-nil l))

on_front : (l : Text) (ls : List Text) → joined_on l ls ≡ (l ++ all_of (take (prefix_len goes_on ls) ls)) ∷ joined (drop (prefix_len goes_on ls) ls)
unfolding joined_on
on_front l [] = ap (λ t. t ∷ []) (sym (append-nil l))
on_front l (m ∷ ms) = one_front (goes_on m) l m ms (prefix_len goes_on ms) (on_front (l ++ m) ms)

alone : (l : Text) (ls : List Text) → l ∷ ls ≡ (l ++ all_of (take 0 ls)) ∷ drop 0 ls
alone l ls = ap (λ t. t ∷ ls) (sym (append-nil l))

front : (h : Habit) (l : Text) (ls : List Text) → joined_by h (l ∷ ls) ≡ (l ++ all_of (take (going_by h ls) ls)) ∷ joined_by h (drop (going_by h ls) ls)
front LoneLf l ls = alone l ls
front LoneCr l ls = alone l ls
front EmptyLines l ls = alone l ls
front SpaceBeforeColon l ls = alone l ls
front LowLine l ls = alone l ls
front GoesOn l ls = on_front l ls
front Octal l ls = alone l ls
front FirstLength l ls = alone l ls
front LastLength l ls = alone l ls
front AddedLengths l ls = alone l ls
front GetBody l ls = alone l ls
front NoChunks l ls = alone l ls
front UndoneTwice l ls = alone l ls
front CutParts l ls = alone l ls

-- what the code takes for a line, and what it leaves
module _ (h : Habit) (l : Text) (others : List (Bor Text)) (n : ℕ) (is : n ≡ going_by h (texts others)) (line : Text) (own : line ≡ l ++ flat_map (λ o. o.now) (take n others)) where
  flat_texts : (bs : List (Bor Text)) → flat_map (λ o. o.now) bs ≡ all_of (texts bs)
  flat_texts [] = refl
  flat_texts (b ∷ bs) = ap (λ t. b.now ++ t) (flat_texts bs)

  pub taken_off : fields_at h (l ∷ texts others) ≡ one_more (field_by h line) (fields_at h (texts (drop n others)))
  unfolding fields_by
  taken_off =
      let m = going_by h (texts others) in
      let so : line ≡ l ++ all_of (take m (texts others)) =
      own ∙ ap (λ t. l ++ t) (flat_texts (take n others) ∙ ap all_of (sym (take-map _ n others)) ∙ ap (λ k. all_of (take k (texts others))) is) in
      let left : texts (drop n others) ≡ drop m (texts others) = sym (drop-map _ n others) ∙ ap (λ k. drop k (texts others)) is in
      ap (fields_by (name_by h)) (front h l (texts others))
      ∙ ap₂ (λ t ts. one_more (field_by h t) (fields_at h ts)) (sym so) (sym left)

-- the same of the lines that are left, as the code takes them apart
pub step : (h : Habit) (bs : List (Bor Text)) (d : Bor Text) (others : List (Bor Text)) (n : ℕ) (line : Text) → 1 ≤ length bs → others ≡ take (length bs - 1) (drop 1 bs) → n ≡ going_by h (texts others) →
    line ≡ (get_or bs 0 d).now ++ flat_map (λ o. o.now) (take n others) → fields_at h (texts bs) ≡ one_more (field_by h line) (fields_at h (texts (take (length others - n) (drop n others))))
step h [] d others n line some is at own = absurd (omega arith)
step h (b ∷ bs) d others n line some is at own =
    let same : others ≡ bs = is ∙ take_rest (b ∷ bs) 1 in
    ap (λ os. fields_at h (b.now ∷ texts os)) (sym same) ∙ taken_off h b.now others n at line own
    ∙ ap (λ os. one_more (field_by h line) (fields_at h (texts os))) (sym (take_rest others n))

pub fewer : (bs others : List (Bor Text)) (n : ℕ) → others ≡ take (length bs - 1) (drop 1 bs) → length (take (length others - n) (drop n others)) ≤ length bs
fewer bs others n is =
    let front = ap length is ∙ ap length (take_rest bs 1) ∙ length-drop 1 bs in
    let back = ap length (take_rest others n) ∙ length-drop n others in
    omega arith

pub none_left : (bs : List (Bor Text)) → length bs < 1 → texts bs ≡ []
none_left [] h = refl
none_left (b ∷ bs) h = absurd (omega arith)

-- fields before those that are read behind them
abbrev pub put_many : List Field → Fields → Fields
put_many fs NotAny = NotAny
put_many fs (Many gs) = Many (fs ++ gs)

pub put_none : (x : Fields) → put_many [] x ≡ x
put_none NotAny = refl
put_none (Many gs) = refl

put_push : (fs : List Field) (f : Field) (x : Fields) → put_many fs (one_more (Some f) x) ≡ put_many (fs ++ (f ∷ [])) x
put_push fs f NotAny = refl
put_push fs f (Many gs) = ap Many (sym (append_assoc fs (f ∷ []) gs))

no_lines : (h : Habit) → fields_at h [] ≡ Many []
unfolding fields_by
no_lines LoneLf = refl
no_lines LoneCr = refl
no_lines EmptyLines = refl
no_lines SpaceBeforeColon = refl
no_lines LowLine = refl
no_lines GoesOn = refl
no_lines Octal = refl
no_lines FirstLength = refl
no_lines LastLength = refl
no_lines AddedLengths = refl
no_lines GetBody = refl
no_lines NoChunks = refl
no_lines UndoneTwice = refl
no_lines CutParts = refl

module _ (h : Habit) (all : Fields) (fs : List Field) (ls : List Text) (so : all ≡ put_many fs (fields_at h ls)) where
  -- no line is left
  pub all_read : ls ≡ [] → Many fs ≡ all
  unfolding fields_by
  all_read e = sym (so ∙ ap (λ ms. put_many fs (fields_at h ms)) e ∙ ap (put_many fs) (no_lines h) ∙ ap Many (append-nil fs))

  -- one field more, and a line that is none
  pub one_read : (line : Text) (rest : List Text) (f : Field) → fields_at h ls ≡ one_more (field_by h line) (fields_at h rest) → Some f ≡ field_by h line → all ≡ put_many (fs ++ (f ∷ [])) (fields_at h rest)
  one_read line rest f e is = so ∙ ap (put_many fs) (e ∙ ap (λ o. one_more o (fields_at h rest)) (sym is)) ∙ put_push fs f (fields_at h rest)

  pub none_read : (line : Text) (rest : List Text) → fields_at h ls ≡ one_more (field_by h line) (fields_at h rest) → None ≡ field_by h line → NotAny ≡ all
  none_read line rest e is = sym (so ∙ ap (put_many fs) (e ∙ ap (λ o. one_more o (fields_at h rest)) (sym is)))
