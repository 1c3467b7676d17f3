-- The rules that a script sets are good.
use Rattle.std.proofs.Common.{◌≡◌, ℕ, zero, suc, ◌≤◌, ◌&&◌, T, eqb, leb, Some, None, List, [], ◌∷◌, ◌++◌, map, length, Ok, Err, IfOk, Result, vec_items, slice_get, sym, refl, ap, ◌∙◌, subst, append-nil, arith}
use Rattle.std.specs.List.{AllByRecursion}
use Rattle.std.specs.declared.alloc.AllocError.{AllocError}
use Rattle.std.proofs.lemmas.Simd.{map-map}
use Rattle.std.proofs.lemmas.Bool.{cond_both, eqb-true}
use Rattle.std.proofs.lemmas.Result.{IfOk-at_ok}
use Rattle.text.specs.Bytes.{Text, all, nonempty, rule_byte}
use Rattle.text.specs.Marks.{rest_after, split}
use Rattle.text.proofs.Passing.{and_i, and_l, and_r}
use Rattle.request.specs.Places.{or_root}
use Rattle.rules.specs.Rules.{view_rules}
use Rattle.rules.specs.declared.Rule.{Rule as Held}
use Rattle.rules_laws.specs.Laws.{after_slashes, RulePath}
use Rattle.rules_laws.specs.Views.{good_start, good_rules}
use Rattle.rules_laws.proofs.Slashes.{rules_good}
use Rattle.script.specs.Hosts.{names_in, rules_in}
use Rattle.script.specs.Scripts.{ScriptText, in_settings, known, begun, applied, unread, line_taken}
use Rattle.script.specs.Series.{on_none, on_rest, parts, parts_in, pieces_in}
use Rattle.script.specs.Settings.{ServerText, Took, named, server_with, with_server, with_rule, one, more, rule_text, server_in}
use Rattle.script.specs.Statements.{Says, nothing, server, rule, event, RuleText, Sound, statement_of}
use Rattle.script.specs.Words.{allows, fits}
use Rattle.script.specs.declared.hosts.Hosts.{Hosts}
use Rattle.script.specs.declared.problem.Problem.{Problem}
use Rattle.script.specs.declared.problem.Problem.TheVariants as problem
use Rattle.script.specs.declared.progress.Phase.{Phase}
use Rattle.script.specs.declared.progress.Phase.TheVariants as phase
use Rattle.script.specs.declared.settings.Server.{Server}
use Rattle.script.specs.declared.statement.Statement.{Statement}
use Rattle.script.specs.declared.statement.Statement.TheVariants as statement
use Rattle.script.specs.declared.word.Word.TheVariants.{Part}
use Rattle.script_laws.specs.Good.{PathRead, RuleRead, WellWritten, as_rule, SettingsGood, StaysGood, ReadScript, no_line, next_line, ScriptGood, or_none, RulesGood, HostsGood}
use Rattle.script_laws.specs.Grammar.{joined_by, PathWord, no_part, some_parts, LineSays, empty, comment, a_server, a_rule, from_client, from_server}
use Rattle.script_laws.proofs.Given.{made_then}
use Rattle.script_laws.proofs.Lines.{line_made}
use Rattle.script_laws.proofs.Rules.{parts_made}
use Rattle.script_laws.proofs.Words.{Good, join_split}

-- parts joined behind a slash each follow one
slashes : (ts : List Text) → 1 ≤ length ts → 47 ∷ joined_by 47 ts ≡ after_slashes ts
unfolding joined_by after_slashes
slashes [] some = absurd (omega arith)
slashes (t ∷ []) some = ap (λ u. 47 ∷ u) (sym (append-nil t))
slashes (t ∷ u ∷ ts) some = ap (λ v. 47 ∷ (t ++ v)) (slashes (u ∷ ts) (omega arith))

in_path : (ts : List Text) → 1 ≤ length ts → 47 ∷ joined_by 47 ts ≡ or_root (after_slashes ts)
unfolding or_root
in_path ts some = subst (λ t. 47 ∷ joined_by 47 ts ≡ or_root t) (slashes ts some) refl

-- a part is not empty
some_bytes : (t : Text) → T (fits Part (length t)) → T (nonempty t)
unfolding nonempty
some_bytes [] h = absurd h
some_bytes (c ∷ t) h = tt

start_good : (ts : List Text) → Good Part ts → T (good_start ts)
unfolding good_start
start_good [] g = tt
start_good (t ∷ ts) g =
    let size = and_l (fits Part (length t)) (all (allows Part) t) g.0 in
    let bytes = and_r (fits Part (length t)) (all (allows Part) t) g.0 in
    and_i (nonempty t && all rule_byte t) (good_start ts) (and_i (nonempty t) (all rule_byte t) (some_bytes t size) bytes) (start_good ts g.1)

pub path_read : PathRead
path_read ps path no_part = (record { parts = []; good = unfold good_start in tt; joined = unfold after_slashes or_root in refl }, refl)
path_read ps path (some_parts _ g some few) = (record { parts = ps; good = start_good ps g; joined = in_path ps some }, refl)

word_good : (ps : List Text) (path : Text) → PathWord ps path → T (good_start ps)
word_good ps path w = let h = path_read ps path w in subst (λ ts. T (good_start ts)) h.1 h.0.good

-- what a line says is good
abbrev SaysGood : Says → Type 0
SaysGood nothing = Unit {0}
SaysGood (server n) = Unit {0}
SaysGood (rule r) = T (good_start r.parts)
SaysGood (event from bytes) = Unit {0}

says_good : (t : Text) (s : Says) → LineSays t s → SaysGood s
says_good t s empty = tt
says_good t s comment = tt
says_good t s (a_server n h) = tt
says_good t s (a_rule v m p) = word_good _ _ p
says_good t s (from_client n low high h) = tt
says_good t s (from_server n low high h) = tt

pub rule_read : RuleRead
rule_read t r h = says_good t (rule r) h

-- and so is what a call reads
pub well_written : (s : Statement) → Sound s → WellWritten s
well_written statement.Nothing h = tt
well_written (statement.Server n) h = tt
well_written (statement.Rule r) h =
    let path = r.path.now in
    (path_read (parts_in path) path (IfOk-at_ok (λ ps. PathWord ps path) h.1 (parts_made path))).0
well_written (statement.Event e) h = tt

-- good rules with one more
rules_more : (r : RuleText) → T (good_start r.parts) → (rs : List RuleText) → T (good_rules (map as_rule rs)) → T (good_rules (map as_rule (rs ++ r ∷ [])))
unfolding good_rules
rules_more r h [] g = and_i (good_start r.parts) _ h tt
rules_more r h (u ∷ us) g =
    let rest = and_r (good_start u.parts) (good_rules (map as_rule us)) g in
    and_i (good_start u.parts) (good_rules (map as_rule (us ++ r ∷ []))) (and_l (good_start u.parts) (good_rules (map as_rule us)) g) (rules_more r h us rest)

abbrev ServerGood : ServerText → Type 0
ServerGood s = T (good_rules (map as_rule s.rules))

server_more : (r : RuleText) → T (good_start r.parts) → (s : ServerText) → ServerGood s → IfOk (server_with r s) ServerGood
server_more r h s g = cond_both (leb 64 (length s.rules)) (Err problem.TooManyRules) (Ok (record { name = s.name; rules = s.rules ++ r ∷ [] })) (λ o. IfOk o ServerGood) (λ _. tt) (λ _. rules_more r h s.rules g)

only : (o : Result ServerText Problem) → IfOk o ServerGood → IfOk (one o) SettingsGood
only (Ok s) g = (g, tt)
only (Err e) g = tt

behind : (s : ServerText) → ServerGood s → (o : Result (List ServerText) Problem) → IfOk o SettingsGood → IfOk (more s o) SettingsGood
behind s h (Ok ss) g = (h, g)
behind s h (Err e) g = tt

rule_added : (r : RuleText) → T (good_start r.parts) → (ss : List ServerText) → SettingsGood ss → IfOk (with_rule r ss) SettingsGood
unfolding with_rule
rule_added r h [] g = tt
rule_added r h (s ∷ []) g = only (server_with r s) (server_more r h s g.0)
rule_added r h (s ∷ t ∷ ss) g = behind s g.0 (with_rule r (t ∷ ss)) (rule_added r h (t ∷ ss) g.1)

-- good settings with one more server
servers_more : (n : Text) (ss : List ServerText) → SettingsGood ss → SettingsGood (ss ++ record { name = n; rules = [] } ∷ [])
unfolding good_rules
servers_more n [] g = (tt, tt)
servers_more n (s ∷ ss) g = (g.0, servers_more n ss g.1)

server_added : (n : Text) (ss : List ServerText) → SettingsGood ss → IfOk (with_server n ss) SettingsGood
server_added n ss g =
    cond_both (leb 8 (length ss)) _ _ (λ o. IfOk o SettingsGood) (λ _. tt) (λ _.
    cond_both (named n ss) (Err problem.ServerTwice) _ (λ o. IfOk o SettingsGood) (λ _. tt) (λ _. servers_more n ss g))

abbrev TextGood : ScriptText → Type 0
TextGood s = SettingsGood s.servers

settings_good : (p : Phase) (o : Result (List ServerText) Problem) → IfOk o SettingsGood → IfOk (in_settings p o) TextGood
settings_good phase.Settings (Ok ss) g = g
settings_good phase.Settings (Err e) g = tt
settings_good phase.Events o g = tt

says_taken : (says : Says) → SaysGood says → (s : ScriptText) → TextGood s → IfOk (applied says s) TextGood
says_taken nothing h s g = g
says_taken (server n) h s g = settings_good s.phase (with_server n s.servers) (server_added n s.servers g)
says_taken (rule r) h s g = settings_good s.phase (with_rule r s.servers) (rule_added r h s.servers g)
says_taken (event from bytes) h s g = cond_both (known from (length s.servers)) (Ok (begun s)) (Err problem.UnknownServer) (λ o. IfOk o TextGood) (λ _. g) (λ _. tt)

line_kept : (t : Text) (s : ScriptText) → TextGood s → IfOk (line_taken t s) TextGood
line_kept t s g = made_then (LineSays t) TextGood (statement_of t) (λ says. applied says s) (λ says h. says_taken says (says_good t says h) s g) (line_made t)

pub stays_good : StaysGood
stays_good t s then g e = IfOk-at_ok TextGood e (line_kept t s g)

pub script_good : ScriptGood
script_good s no_line = tt
script_good s (next_line {s = before} t h e) = stays_good t before s (script_good before h) e

-- a script before its first line
pub unread_read : (s : ScriptText) → s ≡ unread → ReadScript s
unread_read s e = subst ReadScript (sym e) no_line

-- a call that takes a line, or leaves all as it was
pub line_read_on : {U : Type 0} (needs : _) (t : Text) (before then : ScriptText) (r : Result U Problem) → Took needs before (line_taken t before) then r → ReadScript before → ReadScript then
line_read_on needs t before then (Ok u) e h = next_line t h e
line_read_on needs t before then (Err p) e h = rw (e.0) h

-- a path that is held and begins with a slash is written as settings write it, where the parts that they tell are good
from_slash : (rest : Text) → T (good_start (parts_in (47 ∷ rest))) → RulePath (47 ∷ rest)
unfolding rest_after
from_slash [] g = record { parts = []; good = g; joined = unfold after_slashes or_root in refl }
from_slash (c ∷ cs) g =
    let j = join_split 47 (c ∷ cs) in
    record { parts = split 47 (c ∷ cs); good = g; joined = ap (λ t. 47 ∷ t) j.0 ∙ in_path (split 47 (c ∷ cs)) j.1 }

-- it does begin with one, since a path that doesn't tells an empty part
begins : (t : Text) → T (good_start (parts_in t)) → (rest : Text) × (t ≡ 47 ∷ rest)
unfolding rest_after good_start nonempty
begins [] g = absurd g
begins (c ∷ cs) g =
    cond_both (eqb c 47) (Some cs) None (λ o. T (good_start (on_rest o (λ rest. on_none rest [] (pieces_in parts rest)) ([] ∷ []))) → (rest : Text) × (c ∷ cs ≡ 47 ∷ rest))
    (λ e _. rw (eqb-true c 47 e) (cs, refl)) (λ _ h. absurd h) g

held_path : (r : Held) → T (good_start (rule_text r).parts) → RulePath r.path.now
held_path r g =
    let h = begins r.path.now g in
    subst RulePath (sym h.1) (from_slash h.0 (subst (λ t. T (good_start (parts_in t))) h.1 g))

held_paths : (rs : List Held) → T (good_rules (map as_rule (map rule_text rs))) → AllByRecursion (λ r. RulePath r.path.now) rs
unfolding good_rules
held_paths [] g = tt
held_paths (r ∷ rs) g =
    let start = (rule_text r).parts in
    let rest = good_rules (map as_rule (map rule_text rs)) in
    (held_path r (and_l (good_start start) rest g), held_paths rs (and_r (good_start start) rest g))

held_good : (rs : List Held) → T (good_rules (map as_rule (map rule_text rs))) → T (good_rules (view_rules rs))
held_good rs g = rules_good rs (held_paths rs g)

-- the rules of each of several servers
each_good : {X : Type 0} (f : X → List Held) (xs : List X) (ss : List ServerText) → map (λ x. map rule_text (f x)) xs ≡ map (λ s. s.rules) ss → SettingsGood ss → (k : ℕ) → T (good_rules (or_none (slice_get (map (λ x. view_rules (f x)) xs) k)))
each_good f [] ss e g k = unfold good_rules in tt
each_good f (x ∷ xs) [] e g k = cc
each_good f (x ∷ xs) (s ∷ ss) e g zero =
    let are : map rule_text (f x) ≡ s.rules = cc in
    held_good (f x) (subst (λ rs. T (good_rules (map as_rule rs))) (sym are) g.0)
each_good f (x ∷ xs) (s ∷ ss) e g (suc k) =
    let rest : map (λ x. map rule_text (f x)) xs ≡ map (λ s. s.rules) ss = cc in
    each_good f xs ss rest g.1 k

pub hosts_good : HostsGood
hosts_good h s read are k = each_good (λ rules. vec_items rules) (vec_items h.rules) s.servers are (script_good s read) k

-- what is told of servers as the code holds them, and as texts
lent : {Y : Type 0} (g : ServerText → Y) (held : List Server) (ss : List ServerText) → map server_in held ≡ ss → map (λ s. g (server_in s)) held ≡ map g ss
lent g held ss e = sym (map-map g server_in held) ∙ ap (map g) e

pub names_lent : (held : List Server) (ss : List ServerText) (r : Result Hosts AllocError) → map server_in held ≡ ss → IfOk r (λ h. names_in h ≡ map (λ s. (server_in s).name) held) → IfOk r (λ h. names_in h ≡ map (λ s. s.name) ss)
names_lent held ss r e h = subst (λ ns. IfOk r (λ h. names_in h ≡ ns)) (lent (λ s. s.name) held ss e) h

pub rules_lent : (held : List Server) (ss : List ServerText) (r : Result Hosts AllocError) → map server_in held ≡ ss → IfOk r (λ h. rules_in h ≡ map (λ s. (server_in s).rules) held) → IfOk r (λ h. rules_in h ≡ map (λ s. s.rules) ss)
rules_lent held ss r e h = subst (λ rs. IfOk r (λ h. rules_in h ≡ rs)) (lent (λ s. s.rules) held ss e) h

pub hosts_promised : (s : ScriptText) (r : Result Hosts AllocError) → IfOk r (λ h. rules_in h ≡ map (λ s. s.rules) s.servers) → IfOk r (λ h. ReadScript s → RulesGood h)
hosts_promised s (Ok h) e = λ read. hosts_good h s read e
hosts_promised s (Err e) h = tt
