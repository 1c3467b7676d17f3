-- A line is read as the grammar says.
use Rattle.std.proofs.Common.{◌≡◌, ℕ, ◌≤◌, eqb, List, [], ◌∷◌, ◌++◌, IfOk, Ok, Err, codes, Result, sym, refl, arith, MatchResult}
use Rattle.std.proofs.lemmas.Result.{IfOk-at_ok}
use Rattle.std.proofs.lemmas.Bool.{cond_both, eqb-true}
use Rattle.std.specs.Option.{option_map, ok_or}
use Rattle.text.specs.Bytes.{Text}
use Rattle.text.specs.Numerals.{decimal}
use Rattle.text.proofs.Passing.{is_true}
use Rattle.text.specs.Marks.{rest_after, cut_at}
use Rattle.script.specs.Words.{good_word}
use Rattle.script.specs.Series.{methods_of, parts_of}
use Rattle.script.specs.Payloads.{payload_of}
use Rattle.script.specs.Statements.{Says, nothing, server, rule, event, and_then, on_cut, number_in, server_of, rule_of, statement_of, said_by, view}
use Rattle.script.specs.declared.problem.Problem.{Problem}
use Rattle.script.specs.declared.problem.Problem.TheVariants as problem
use Rattle.script.specs.declared.statement.Sender.{Sender}
use Rattle.script.specs.declared.statement.Sender.TheVariants as sender
use Rattle.rules.specs.declared.Verdict.{Verdict}
use Rattle.rules.specs.declared.Verdict.TheVariants.{Allow, Deny}
use Rattle.script.specs.declared.word.Word.TheVariants.{Name}
use Rattle.script.specs.declared.statement.Statement.{Statement}
use Rattle.script_laws.specs.Grammar.{MethodsWord, PathWord, BytesWord, verdict_word, LineSays, empty, comment, a_server, a_rule, from_client, from_server, ReadIffSays}
use Rattle.script_laws.proofs.Given.{gives_mapped, made_or, made_then, on_cut_so}
use Rattle.script_laws.proofs.Words.{on_rest_so, cut_joins, cut_before}
use Rattle.script_laws.proofs.Rules.{methods_made, methods_read, methods_close, parts_made, parts_read}
use Rattle.script_laws.proofs.Numbers.{Number, number_made, number_read}
use Rattle.script_laws.proofs.Spellings.{bytes_made, bytes_read}

-- what is read off a line is what the grammar says of it, and the other way round
server_made : (t : Text) → IfOk (server_of t) (LineSays (codes "server " ++ t))
server_made t = cond_both (good_word Name t) (Ok (server t)) (Err problem.ServerName) (λ r. IfOk r (LineSays (codes "server " ++ t))) (λ e. a_server t (rw e tt)) (λ _. tt)

rule_made : (v : Verdict) (t : Text) → IfOk (rule_of v t) (LineSays (verdict_word v ++ t))
rule_made v t =
    let P : Says → Type 0 = LineSays (verdict_word v ++ t) in
    on_cut_so (λ a b. t ≡ a ++ (32 ∷ b)) P (cut_at 32 t) _ problem.RuleWords
    (λ a b e. made_then (λ ms. MethodsWord ms a) P (methods_of a) _ (λ ms m. made_then (λ ps. PathWord ps b) P (parts_of b) _ (λ ps p. rw e (a_rule v m p)) (parts_made b)) (methods_made a))
    (cut_joins 32 t)

rule_read : (v : Verdict) (ms ps : List Text) (a b : Text) → MethodsWord ms a → PathWord ps b → rule_of v (a ++ (32 ∷ b)) ≡ Ok (rule (record { verdict = v; methods = ms; parts = ps }))
rule_read v ms ps a b m p = rw (cut_before 32 a b (methods_close ms a m), methods_read ms a m, parts_read ps b p)

-- what is read of an event whose sender may be 1 to most
abbrev event_from : ℕ → (ℕ → Sender) → Problem → Text → Result Says Problem
event_from most from fault t = on_cut (cut_at 32 t) (λ a b. and_then (ok_or (option_map from (number_in most a)) fault) (λ f. and_then (payload_of b) (λ bs. Ok (event f bs)))) (Err problem.EventWords)

module _ (most : ℕ) (from : ℕ → Sender) (fault : Problem) (few : most ≤ 16) where
  -- a sender is one by its number
  abbrev Numbered : Text → Sender → Type 0
  Numbered a f = (n : ℕ) × (f ≡ from n) × Number most a n

  sender_made : (a : Text) → IfOk (ok_or (option_map from (number_in most a)) fault) (Numbered a)
  sender_made a = made_or (Numbered a) (Numbered a) (option_map from (number_in most a)) fault (λ f h. h) (gives_mapped (Number most a) (Numbered a) from (number_in most a) (λ n h. (n, refl, h)) (number_made most few a))

  -- w is the words in front
  event_made : (w : Text) → ((n : ℕ) (bs u : Text) → 1 ≤ n → n ≤ most → BytesWord bs u → LineSays (w ++ (decimal n ++ (32 ∷ u))) (event (from n) bs)) → (t : Text) → IfOk (event_from most from fault t) (LineSays (w ++ t))
  event_made w says t =
      let P : Says → Type 0 = LineSays (w ++ t) in
      on_cut_so (λ a b. t ≡ a ++ (32 ∷ b)) P (cut_at 32 t) _ problem.EventWords
      (λ a b e. made_then (Numbered a) P (ok_or (option_map from (number_in most a)) fault) _ (λ f h. made_then (λ bs. BytesWord bs b) P (payload_of b) _ (λ bs k. rw (e, h.1, h.2.2) (says h.0 bs b h.2.0 h.2.1 k)) (bytes_made b)) (sender_made a))
      (cut_joins 32 t)

  event_read : (n : ℕ) (bs u : Text) → 1 ≤ n → n ≤ most → BytesWord bs u → event_from most from fault (decimal n ++ (32 ∷ u)) ≡ Ok (event (from n) bs)
  event_read n bs u low high h = let r = number_read most n few low high in rw (cut_before 32 (decimal n) u r.1, r.0, bytes_read bs u h)

pub line_made : (t : Text) → IfOk (statement_of t) (LineSays t)
line_made [] = empty
line_made (c ∷ cs) =
    let t = c ∷ cs in
    let P : Says → Type 0 = LineSays t in
    cond_both (eqb c 35) (Ok nothing) _ (λ r. IfOk r P) (λ e. rw (eqb-true c 35 e) comment) (λ _.
    on_rest_so P (codes "server ") t server_of _ (λ r e. rw e (server_made r)) (
    on_rest_so P (codes "allow ") t (rule_of Allow) _ (λ r e. rw e (rule_made Allow r)) (
    on_rest_so P (codes "deny ") t (rule_of Deny) _ (λ r e. rw e (rule_made Deny r)) (
    on_rest_so P (codes "from client ") t _ _ (λ r e. rw e (event_made 16 sender.Client problem.ClientNumber (omega arith) (codes "from client ") (λ n bs u low high h. from_client n low high h) r)) (
    on_rest_so P (codes "from server ") t _ (Err problem.UnknownStatement) (λ r e. rw e (event_made 8 sender.Server problem.ServerNumber (omega arith) (codes "from server ") (λ n bs u low high h. from_server n low high h) r)) tt)))))

line_read : (t : Text) (s : Says) → LineSays t s → statement_of t ≡ Ok s
unfolding rest_after
line_read t s empty = refl
line_read t s comment = refl
line_read t s (a_server n h) = rw (is_true (good_word Name n) h)
line_read t s (a_rule Allow m p) = rule_read Allow _ _ _ _ m p
line_read t s (a_rule Deny m p) = rule_read Deny _ _ _ _ m p
line_read t s (from_client n low high h) = event_read 16 sender.Client problem.ClientNumber (omega arith) n _ _ low high h
line_read t s (from_server n low high h) = event_read 8 sender.Server problem.ServerNumber (omega arith) n _ _ low high h

pub read_iff_says : ReadIffSays
read_iff_says t s = (λ e. IfOk-at_ok (LineSays t) e (line_made t), line_read t s)

-- what a call finds that reads so
pub read_so : (t : Text) (r : Result Statement Problem) → view r ≡ statement_of t → MatchResult r (λ s. LineSays t (said_by s)) (λ _. (s : Says) → LineSays t s → ⊥)
read_so t (Ok s) e = (read_iff_says t (said_by s)).0 (sym e)
read_so t (Err p) e = λ s h. let found = line_read t s h in cc
