-- The worked cases, computed.
use Rattle.std.proofs.Common.{◌≡◌, refl}
use Rattle.text.specs.Bytes.{same, lowered, among, nonempty}
use Rattle.text.specs.Trims.{squeezed_after}
use Rattle.text.specs.Marks.{split, rest_after}
use Rattle.text.specs.Numerals.{digits, numeral, value_after}
use Rattle.message.specs.Framing.{framed}
use Rattle.message.specs.Hops.{kept_among}
use Rattle.message.specs.Sent.{line_then}
use Rattle.message.specs.Chunked.{run, most_bytes}
use Rattle.message.specs.Faults.{number_of, flaw}
use Rattle.message.specs.declared.fault.Fault.TheVariants.{Framing, BodyUnfit, PathByte, PathPart}
use Rattle.message.specs.Fields.{field_lines, lines_of}
use Rattle.message.specs.declared.fault.Flaw.{Flaw}
use Rattle.request.specs.First.{agree}
use Rattle.request.specs.Found.{fault}
use Rattle.request.specs.Heads.{window}
use Rattle.request.specs.Hosts.{host_among, server_from}
use Rattle.request.specs.Targets.{tokens_at, bad_token, spelled, bad_part_in}
use Rattle.request_laws.specs.Laws.{finding_of}
use Rattle.request_laws.specs.Outcome.{outcome}
use Rattle.rules.specs.Rules.{begins, ruled_from}
use Rattle.worked.specs.Played.{names, sent_in, Refused, IsFound}
use Rattle.worked.specs.Laws.{WorkedCases, WorkedFaults}
use Rattle.worked.specs.Rows as rows
use Rattle.worked.proofs.Told.{told, events_of, goes}

infixr 20 ◌&◌
◌&◌ : {A B : Type 0} → A → B → A × B
◌&◌ a b = (a, b)

pub worked_cases : WorkedCases
unfolding same lowered among nonempty squeezed_after split rest_after digits numeral value_after framed kept_among line_then run most_bytes field_lines lines_of agree window host_among server_from tokens_at bad_token spelled bad_part_in begins ruled_from sent_in told events_of
worked_cases =
    goes rows.code_undone refl refl
    & goes rows.chunks_joined refl refl
    & goes rows.empty_part refl refl
    & goes rows.dots_in_codes refl refl
    & goes rows.slash_in_code refl refl
    & goes rows.code_kept refl refl
    & goes rows.framed_twice refl refl
    & goes rows.body_unwanted refl refl
    & goes rows.body_unsaid refl refl
    & goes rows.first_rule refl refl
    & goes rows.one_each refl refl
    & goes rows.early_and_last refl refl
    & goes rows.unasked refl refl
    & goes rows.head_asked refl refl
    & tt

found : (r : Refused) (w : Flaw) → finding_of (outcome names r.text) ≡ fault w → number_of w.fault ≡ r.number → w.place ≡ r.place → IsFound r
found r w f n p = record { flaw = w; found = f; number = n; place = p }

pub worked_faults : WorkedFaults
unfolding same lowered among nonempty split value_after framed line_then agree window host_among server_from tokens_at bad_token bad_part_in
worked_faults =
    found _ (flaw PathPart 7) refl refl refl
    & found _ (flaw PathPart 13) refl refl refl
    & found _ (flaw PathByte 6) refl refl refl
    & found _ (flaw Framing 46) refl refl refl
    & found _ (flaw BodyUnfit 26) refl refl refl
    & found _ (flaw BodyUnfit 27) refl refl refl
    & tt
