-- How a body is found, once it is known how long it is.
use Rattle.std.proofs.Common.{◌≡◌, ℕ, ◌≤◌, ◌<◌, Bool, true, false, cond, List, [], ◌∷◌, length, take, drop, codes, Some, None, Option, refl, sym, ap, ap₂, ◌∙◌}
use Rattle.std.proofs.lemmas.Bool.{cond-true, cond-false, le-leb, lt-leb}
use Rattle.text.specs.Bytes.{Text, same}
use Rattle.text.specs.Numerals.{number_of}
use Rattle.text.specs.declared.numeral.Base.TheVariants.{Decimal}
use Rattle.message.specs.Fields.{Field}
use Rattle.reader.specs.Reader.{Size, Exactly, Got, More, Bad, Whole, body_of}
use Rattle.reader.specs.Strict.{exactly, size_by}
use Rattle.forgiving.specs.Common.{otherwise, only_chunked, by_chunks}
use Rattle.forgiving.specs.Readers.{octal, one_of, last_of, added, sized, lengths, encodings, reader_with}
use Rattle.forgiving.specs.Parts.{unencoded, size_with}
use Rattle.forgiving.specs.declared.habit.Habit.{Habit}
use Rattle.forgiving.specs.declared.habit.Habit.TheVariants.{LoneLf, LoneCr, EmptyLines, SpaceBeforeColon, LowLine, GoesOn, Octal, FirstLength, LastLength, AddedLengths, GetBody, NoChunks, UndoneTwice, CutParts}

strictly : (es vs : List Text) → size_by es vs ≡ exactly (unencoded es (one_of (number_of Decimal) vs))
strictly [] [] = refl
strictly [] (v ∷ []) = refl
strictly [] (v ∷ w ∷ vs) = refl
strictly (e ∷ es) vs = refl

sized_is : (es : List Text) (n : Option ℕ) → sized es n ≡ exactly (unencoded es n)
sized_is [] n = refl
sized_is (e ∷ es) n = refl

get_is : (b : Bool) (x : Size) (n : Option ℕ) → x ≡ exactly n → cond b (Exactly 0) x ≡ exactly (cond b (Some 0) n)
get_is true x n e = refl
get_is false x n e = e

-- each reader asks for a length
size_is : (h : Habit) (m : Text) (fs : List Field) → (reader_with h).size m fs ≡ exactly (size_with h m (encodings fs) (lengths fs))
size_is LoneLf m fs = strictly (encodings fs) (lengths fs)
size_is LoneCr m fs = strictly (encodings fs) (lengths fs)
size_is EmptyLines m fs = strictly (encodings fs) (lengths fs)
size_is SpaceBeforeColon m fs = strictly (encodings fs) (lengths fs)
size_is LowLine m fs = strictly (encodings fs) (lengths fs)
size_is GoesOn m fs = strictly (encodings fs) (lengths fs)
size_is Octal m fs = sized_is (encodings fs) (one_of octal (lengths fs))
size_is FirstLength m fs = strictly (encodings fs) (take 1 (lengths fs))
size_is LastLength m fs = strictly (encodings fs) (last_of (lengths fs))
size_is AddedLengths m fs = sized_is (encodings fs) (added (lengths fs))
size_is GetBody m fs = get_is (same m (codes "GET")) (size_by (encodings fs) (lengths fs)) _ (strictly (encodings fs) (lengths fs))
size_is NoChunks m fs = strictly [] (lengths fs)
size_is UndoneTwice m fs = strictly (encodings fs) (lengths fs)
size_is CutParts m fs = strictly (encodings fs) (lengths fs)

pub otherwise_is : (h : Habit) (m t : Text) (fs : List Field) (s : Text) → (reader_with h).otherwise m t fs s ≡ otherwise m t fs s
otherwise_is LoneLf m t fs s = refl
otherwise_is LoneCr m t fs s = refl
otherwise_is EmptyLines m t fs s = refl
otherwise_is SpaceBeforeColon m t fs s = refl
otherwise_is LowLine m t fs s = refl
otherwise_is GoesOn m t fs s = refl
otherwise_is Octal m t fs s = refl
otherwise_is FirstLength m t fs s = refl
otherwise_is LastLength m t fs s = refl
otherwise_is AddedLengths m t fs s = refl
otherwise_is GetBody m t fs s = refl
otherwise_is NoChunks m t fs s = refl
otherwise_is UndoneTwice m t fs s = refl
otherwise_is CutParts m t fs s = refl

module _ (h : Habit) (m t : Text) (fs : List Field) (s : Text) where
  -- the body that the reader finds
  abbrev pub found : Got
  found = body_of (reader_with h) m t fs s ((reader_with h).size m fs)

  by : (o : Option ℕ) → o ≡ size_with h m (encodings fs) (lengths fs) → found ≡ body_of (reader_with h) m t fs s (exactly o)
  by o e = ap (body_of (reader_with h) m t fs s) (size_is h m fs ∙ ap exactly (sym e))

  pub by_length : (n : ℕ) → Some n ≡ size_with h m (encodings fs) (lengths fs) → n ≤ length s → (body rest : Text) → body ≡ take n s → rest ≡ drop n s → Whole (record { method = m; target = t; fields = fs; body = body }) rest ≡ found
  by_length n e l body rest b r =
      ap₂ (λ x y. Whole (record { method = m; target = t; fields = fs; body = x }) y) b r ∙ sym (by (Some n) e ∙ cond-true _ _ _ (le-leb n (length s) l))

  pub not_yet : (n : ℕ) → Some n ≡ size_with h m (encodings fs) (lengths fs) → length s < n → More ≡ found
  not_yet n e l = sym (by (Some n) e ∙ cond-false _ _ _ (lt-leb n (length s) l))

  pub chunked : None ≡ size_with h m (encodings fs) (lengths fs) → only_chunked (encodings fs) (lengths fs) ≡ true → by_chunks m t fs s ≡ found
  chunked e c = sym (by None e ∙ otherwise_is h m t fs s ∙ cond-true _ _ _ c)

  pub neither : None ≡ size_with h m (encodings fs) (lengths fs) → only_chunked (encodings fs) (lengths fs) ≡ false → Bad ≡ found
  neither e c = sym (by None e ∙ otherwise_is h m t fs s ∙ cond-false _ _ _ c)
