-- The common reader, of which each habit changes one thing: the strict reader, but that it understands chunks.
use Rattle.std.specs.Prelude.{Bool, false, cond, List, [], ◌∷◌, drop, codes}
use Rattle.text.specs.Bytes.{Text, same_no_case}
use Rattle.message.specs.Fields.{Field, content_length, transfer_encoding}
use Rattle.message.specs.Chunked.{most_bytes, fresh, Run, run}
use Rattle.message.specs.declared.chunked.Outcome.{Outcome}
use Rattle.message.specs.declared.chunked.Outcome.TheVariants as chunks
use Rattle.reader.specs.Reader.{Reader, Got, More, Bad, Whole}
use Rattle.reader.specs.Strict.{values_of, strict}

-- one encoding, `chunked` in any case, and no length
abbrev pub only_chunked : List Text → List Text → Bool
only_chunked [] vs = false
only_chunked (e ∷ []) [] = same_no_case e (codes "chunked")
only_chunked (e ∷ []) (v ∷ vs) = false
only_chunked (e ∷ f ∷ es) vs = false

abbrev pub says_chunked : List Field → Bool
says_chunked fs = only_chunked (values_of transfer_encoding fs) (values_of content_length fs)

-- what comes of a run over chunks: more is wanted, a request with the body that they hold and what follows them, or the reader gives up
abbrev pub on_run : Text → Text → List Field → Text → Run → Outcome → Got
on_run m t fs s r chunks.More = More
on_run m t fs s r chunks.Whole = Whole (record { method = m; target = t; fields = fs; body = r.body }) (drop r.taken s)
on_run m t fs s r (chunks.Wrong w) = Bad

-- a body that goes by chunks from its first byte on
abbrev pub by_chunks : Text → Text → List Field → Text → Got
by_chunks m t fs s = on_run m t fs s (run (fresh most_bytes 0) s) (run (fresh most_bytes 0) s).outcome

-- a body that the reader does not take by a length
abbrev pub otherwise : Text → Text → List Field → Text → Got
otherwise m t fs s = cond (says_chunked fs) (by_chunks m t fs s) Bad

abbrev pub common : Reader
common = record strict { otherwise = otherwise }
