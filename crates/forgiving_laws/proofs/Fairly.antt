-- Each reader is fair: the part that its habit changes is, and so are the others, which are those of the strict reader.
use Rattle.std.proofs.Common.{◌≡◌, ◌<◌, Bool, true, false, cond, T, List, [], ◌∷◌, ◌++◌, length, take, codes, refl, ap, ◌∙◌}
use Rattle.std.proofs.ByRecursion.{All-push}
use Rattle.std.specs.List.{AllByRecursion}
use Rattle.std.proofs.lemmas.Bool.{cond-false, cond_both}
use Rattle.text.specs.Bytes.{Text, same}
use Rattle.text.specs.Trims.{trimmed_back}
use Rattle.message.specs.Fields.{Field, canonical_fields, field_lines}
use Rattle.request.specs.Canonical.{carries_body, body_limit, length_field}
use Rattle.reader.specs.Reader.{Cut, Fair, Fields, Many, Size, Exactly}
use Rattle.reader.specs.Strict.{split_line, read_ask, exactly, read_fields, read_size, size_by}
use Rattle.reader.proofs.Plain.{Plain, canonical_plain, length_plain}
use Rattle.reader.proofs.Strictly.{fields_read, strict_is_fair}
use Rattle.forgiving.specs.Common.{otherwise}
use Rattle.forgiving.specs.Readers.{lf_end, cr_end, split_by, fields_by, hyphened, joined, octal, added_after, added, one_of, last_of, sized, lengths, encodings}
use Rattle.forgiving.specs.declared.habit.Habit.TheVariants.{LoneLf, LoneCr, EmptyLines, SpaceBeforeColon, LowLine, GoesOn, Octal, FirstLength, LastLength, AddedLengths, GetBody, NoChunks, UndoneTwice, CutParts}
use Rattle.forgiving_laws.specs.Laws.{EachFair}
use Rattle.forgiving_laws.proofs.Lines.{Splits, strict_splits, lf_splits, cr_splits}
use Rattle.forgiving_laws.proofs.Names.{renamed_read, none_cut, none_hyphened, none_joined}
use Rattle.forgiving_laws.proofs.Lengths.{encodings_none, lengths_none, encodings_given, lengths_given, decimal_read, octal_read, added_read, no_get}

-- what is asked of how fields are read, and of how long a body is said to be
abbrev Reads : (List Text → Fields) → Type 0
Reads fields = (fs : List Field) → AllByRecursion Plain fs → fields (field_lines fs) ≡ Many fs

record Sizes (size : Text → List Field → Size) : Type 0 where
  given : (m : Text) (fs : List Field) (body : Text) → T (carries_body m) → T (canonical_fields fs) → length body < body_limit → size m (fs ++ (length_field body ∷ [])) ≡ Exactly (length body)
  none : (m : Text) (fs : List Field) → T (canonical_fields fs) → size m fs ≡ Exactly 0

-- a reader is fair by its parts; what it does before a request, or with a body that goes by no length, is nowhere looked at
fair_by : (split : Text → Cut) (skips : Bool) (fields : List Text → Fields) (size : Text → List Field → Size) → Splits split → Reads fields → Sizes size →
    Fair (record { split = split; skips = skips; asked = read_ask; fields = fields; size = size; otherwise = otherwise })
fair_by split skips fields size s f z = record {
  whole_line = s.whole_line;
  part_line = s.part_line;
  part_end = s.part_end;
  plain_ask = strict_is_fair.plain_ask;
  plain_fields = λ fs h o l. f fs (canonical_plain fs h);
  length_last = λ fs body h o l k. f (fs ++ (length_field body ∷ [])) (All-push Plain fs (length_field body) (canonical_plain fs h) (length_plain body));
  size_given = λ m fs body a b h o l k. z.given m fs body b h k;
  size_none = λ m fs a b h o l. z.none m fs h;
}

-- sizes that a body's length alone decides
strict_sizes : Sizes read_size
strict_sizes = record {
  given = λ m fs body b h k. rw (encodings_given fs body h, lengths_given fs body h) (ap exactly (decimal_read (length body) k));
  none = λ m fs h. rw (encodings_none fs h, lengths_none fs h) refl;
}

octal_sizes : Sizes (λ m fs. sized (encodings fs) (one_of octal (lengths fs)))
octal_sizes = record {
  given = λ m fs body b h k. rw (encodings_given fs body h, lengths_given fs body h) (ap exactly (octal_read (length body) k));
  none = λ m fs h. rw (encodings_none fs h, lengths_none fs h) refl;
}

first_sizes : Sizes (λ m fs. size_by (encodings fs) (take 1 (lengths fs)))
first_sizes = record {
  given = λ m fs body b h k. rw (encodings_given fs body h, lengths_given fs body h) (ap exactly (decimal_read (length body) k));
  none = λ m fs h. rw (encodings_none fs h, lengths_none fs h) refl;
}

last_sizes : Sizes (λ m fs. size_by (encodings fs) (last_of (lengths fs)))
last_sizes = record {
  given = λ m fs body b h k. rw (encodings_given fs body h, lengths_given fs body h) (ap exactly (decimal_read (length body) k));
  none = λ m fs h. rw (encodings_none fs h, lengths_none fs h) refl;
}

added_sizes : Sizes (λ m fs. sized (encodings fs) (added (lengths fs)))
unfolding added_after
added_sizes = record {
  given = λ m fs body b h k. rw (encodings_given fs body h, lengths_given fs body h) (ap exactly (added_read (length body) k));
  none = λ m fs h. rw (encodings_none fs h, lengths_none fs h) refl;
}

get_sizes : Sizes (λ m fs. cond (same m (codes "GET")) (Exactly 0) (read_size m fs))
get_sizes = record {
  given = λ m fs body b h k. cond-false _ _ _ (no_get m b) ∙ strict_sizes.given m fs body b h k;
  none = λ m fs h. cond_both (same m (codes "GET")) (Exactly 0) (read_size m fs) (λ x. x ≡ Exactly 0) (λ e. refl) (λ e. strict_sizes.none m fs h);
}

no_chunks_sizes : Sizes (λ m fs. size_by [] (lengths fs))
no_chunks_sizes = record {
  given = λ m fs body b h k. rw (lengths_given fs body h) (ap exactly (decimal_read (length body) k));
  none = λ m fs h. rw (lengths_none fs h) refl;
}

pub each_fair : EachFair
each_fair LoneLf = fair_by (split_by lf_end) false read_fields read_size lf_splits fields_read strict_sizes
each_fair LoneCr = fair_by (split_by cr_end) false read_fields read_size cr_splits fields_read strict_sizes
each_fair EmptyLines = fair_by split_line true read_fields read_size strict_splits fields_read strict_sizes
each_fair SpaceBeforeColon = fair_by split_line false (fields_by trimmed_back) read_size strict_splits (renamed_read trimmed_back none_cut) strict_sizes
each_fair LowLine = fair_by split_line false (fields_by hyphened) read_size strict_splits (renamed_read hyphened none_hyphened) strict_sizes
each_fair GoesOn = fair_by split_line false (λ ls. read_fields (joined ls)) read_size strict_splits (λ fs h. ap read_fields (none_joined fs h) ∙ fields_read fs h) strict_sizes
each_fair Octal = fair_by split_line false read_fields _ strict_splits fields_read octal_sizes
each_fair FirstLength = fair_by split_line false read_fields _ strict_splits fields_read first_sizes
each_fair LastLength = fair_by split_line false read_fields _ strict_splits fields_read last_sizes
each_fair AddedLengths = fair_by split_line false read_fields _ strict_splits fields_read added_sizes
each_fair GetBody = fair_by split_line false read_fields _ strict_splits fields_read get_sizes
each_fair NoChunks = fair_by split_line false read_fields _ strict_splits fields_read no_chunks_sizes
each_fair UndoneTwice = fair_by split_line false read_fields read_size strict_splits fields_read strict_sizes
each_fair CutParts = fair_by split_line false read_fields read_size strict_splits fields_read strict_sizes
