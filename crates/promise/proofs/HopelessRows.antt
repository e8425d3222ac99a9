-- Hopeless rows are refused is proved: the table's reader refuses them with 16, and the verdict, a start, a replay and the host's calls hand the refusal on.
-- (docs/RULES.md, 3.3, 6.4, 6.21, 8.1 and 9.5.)
use Rattle.std.specs.Prelude.{Result, Ok, Err}
use Rattle.kinds.specs.declared.RefusedAt.{RefusedAt}
use Prim.Native.Nat.{ℕ, ◌≤◌, ◌<◌}
use native.Mathlib.Decide.{dec_le}
use native.Mathlib.Omega.{arith}
use mathlib.Core.Path.{◌≡◌, refl, sym, ap, subst, ◌∙◌}
use mathlib.Core.Logic.{◌≢◌, ⊎_elim}
use mathlib.Core.Bool.{Bool, true, false}
use mathlib.Core.List.{List, [], ◌∷◌, ◌++◌, flatten, map, append_assoc, Memᴰ}
use lib.Dec.{leb, eqb}
use lib.ListN.{length, length-append}
use Rattle.kinds.specs.Numbering.{Said, refusal_at, refused_with, refusal_number, numbered}
use Rattle.kinds.specs.declared.Refusal.TheVariants.{HopelessRow}
use Rattle.kinds.proofs.Apart.{impossible}
use Rattle.kinds.proofs.Numbering.{no_answer}
use Rattle.numbers.specs.Spelling.{spelling}
use Rattle.theory.proofs.Cases.{by_eq, by_test}
use Rattle.table.specs.declared.Row.{Row}
use Rattle.table.specs.declared.Table.{Table}
use Rattle.table.specs.Tables.{table_read}
use Rattle.table.specs.Answers.{table_says}
use Rattle.table.specs.SpelledTables.{WithinLimits, AcceptableRow, spelled_row, spelled_servers, spelled_table}
use Rattle.table.specs.Refusals.{PartStands, HopelessRowIn}
use Rattle.table.proofs.Each.{Each, each_none, Each-cons, each_head, each_tail}
use Rattle.table.proofs.Spelling.{stands_whole, parted}
use Rattle.table.proofs.SpelledTables.{accepted_is_usable}
use Rattle.table.proofs.TableAnswers.{refused_with_sixteen}
use Rattle.verdict.specs.declared.Verdict.{Verdict}
use Rattle.verdict.specs.declared.Verdict.TheVariants as verdict
use Rattle.verdict.specs.Verdict.{RightOf, RightOfRead, verdict_says}
use Rattle.run.specs.Runs.{start_answer}
use Rattle.run.specs.Sound.{sound_of}
use Rattle.run.specs.Answers.{start_says, release_says, tick_says}
use Rattle.run.proofs.Sound.{sound_means}
use Rattle.run.proofs.Release.{not_sound}
use Rattle.run.proofs.Ticking.{tick_unsound}
use Rattle.logs.specs.SpelledLogs.{spelled_log}
use Rattle.play.specs.Play.{Progress, Played, whole, stopped, played}
use Rattle.play.specs.Late.{late_finishes}
use Rattle.play.specs.Refusals.{the_table}
use Rattle.play.proofs.Stopping.{stopped_means}
use Rattle.play.proofs.BadBytes.{stopped_with_sixteen}
use Rattle.replay.specs.declared.Replayed.{Replayed}
use Rattle.replay.specs.declared.Replayed.TheVariants as replayed
use Rattle.replay.specs.Outcome.{replay_outcome, replay_of, replay_says}
use Rattle.host.specs.Answer.{answer_length, answer_bytes}
use Rattle.host.specs.Answer as host
use Rattle.host.specs.Buffers.{Filled}
use Rattle.host.proofs.Answering.{answer_filled, replay_of_another_size, replay_of_sixteen}
use Rattle.promise.specs.HopelessRows.{VerdictSaysHopeless, StartSaysHopeless, ReplaySaysHopeless, HopelessIsRefused, NoHopelessRowIsJudged}
use Rattle.promise.specs.HopelessRows.{HopelessRunIsRefused, VerdictCallHopeless, ReplayCallHopeless}

-- ---- the verdict and a start

-- What a right verdict says of a table that is refused is what the table's answer says.
verdict_hands_on : (t : Table) (a : Result ℕ RefusedAt) (v : Verdict) (place : ℕ) → RightOfRead t a v
    → ((verdict_says v ≡ refusal_at 16 place) → table_says a ≡ refused_with 16 place)
    × ((table_says a ≡ refused_with 16 place) → verdict_says v ≡ refusal_at 16 place)
verdict_hands_on t (Ok period) v place right = (λ e. absurd (of_accepted v right (ap (λ (s : Said). s.number) e)), λ e. impossible cc)
  where
    of_accepted : (w : Verdict) → RightOf t w → (verdict_says w).number ≡ 16 → ⊥
    of_accepted verdict.Feasible right is = omega arith
    of_accepted (verdict.Overloaded o) right is = omega arith
    of_accepted (verdict.Refused r) right is = right
verdict_hands_on t (Err r) v place right =
    rw right ((λ e. ap numbered e), λ e. cc)

pub verdict_says_hopeless : VerdictSaysHopeless
verdict_says_hopeless table v place b judged =
    let hands_on = verdict_hands_on (table_read table).table (table_read table).answer v place judged in
    let exactly = refused_with_sixteen table place b in
    (λ e. exactly.0 (hands_on.0 e), λ p. hands_on.1 (exactly.1 p))

-- A start says of a table that is refused what the table's answer says.
start_hands_on : (a : Result ℕ RefusedAt) (place : ℕ)
    → ((start_says (start_answer a) ≡ refused_with 16 place) → table_says a ≡ refused_with 16 place)
    × ((table_says a ≡ refused_with 16 place) → start_says (start_answer a) ≡ refused_with 16 place)
start_hands_on (Ok period) place = (λ e. impossible cc, λ e. impossible cc)
start_hands_on (Err r) place = (λ e. e, λ e. e)

pub start_says_hopeless : StartSaysHopeless
start_says_hopeless table place b =
    let hands_on = start_hands_on (table_read table).answer place in
    let exactly = refused_with_sixteen table place b in
    (λ e. exactly.0 (hands_on.0 e), λ p. hands_on.1 (exactly.1 p))

-- ---- the replay

-- A play that came to its end does not say 16.
whole_says : (room end : ℕ) (p : Progress) → (replay_says (replay_outcome room end (whole p))).number ≢ 16
whole_says room end p = by_test (leb (length (spelled_log p.so_far.finishes)) room)
    (λ fits. by_test (eqb (late_finishes p.so_far.finishes) 0)
    (λ none. rw (fits, none) (λ e. omega arith))
    (λ some. rw (fits, some) (λ e. omega arith)))
    (λ full. rw full (λ e. omega arith))

pub replay_says_hopeless : ReplaySaysHopeless
replay_says_hopeless table script room place rows records = (
  λ e. exactly.0 (to (played table script) refl e),
  λ p. ap (λ q. replay_says (replay_outcome room (length script) q)) (from (exactly.1 p)),
)
  where
    exactly : (table_says (table_read table).answer ≡ refused_with 16 place → HopelessRowIn table place)
        × (HopelessRowIn table place → table_says (table_read table).answer ≡ refused_with 16 place)
    exactly = refused_with_sixteen table place rows

    to : (p : Played) → played table script ≡ p → replay_says (replay_outcome room (length script) p) ≡ refusal_at 16 place
        → table_says (table_read table).answer ≡ refused_with 16 place
    to (whole p) e is = absurd (whole_says room (length script) p (ap (λ (s : Said). s.number) is))
    to (stopped r) e is = stopped_with_sixteen table script r rows records e (ap (λ (s : Said). s.number) is) ∙ ap (λ (s : Said). refused_with 16 s.first) is

    from : table_says (table_read table).answer ≡ refused_with 16 place → played table script ≡ stopped (record { refusal = HopelessRow; place = place })
    from e = (stopped_means table script (record { refusal = HopelessRow; place = place }) records).1 (the_table e)

-- ---- never a verdict

-- Among rows there is a first one with c above d: the rows before it are such as a table may have.
record FirstHopeless (rows : List Row) : Type 0 where
  before : List Row
  row : Row
  after : List Row
  all : rows ≡ before ++ (row ∷ after)
  acceptable : Each AcceptableRow before
  in_range : WithinLimits row
  c_above_d : row.d < row.c

first_hopeless : (rows : List Row) → Each WithinLimits rows → (r : Row) → Memᴰ r rows → r.d < r.c → FirstHopeless rows
first_hopeless [] within r m above = absurd (mathlib.Core.List.Memᴰ.not-nil m)
first_hopeless (q ∷ qs) within r m above = elim (dec_le q.c q.d) [
  | yes h ↦
      let later : Memᴰ r qs = ⊎_elim (λ e. absurd (omega (arith, ap (λ (x : Row). x.c) e, ap (λ (x : Row). x.d) e))) (λ n. n) (mathlib.Core.List.Memᴰ.cases_cons m) in
      let f = first_hopeless qs (each_tail within) r later above in
      record {
        before = q ∷ f.before;
        row = f.row;
        after = f.after;
        all = ap (λ l. q ∷ l) f.all;
        acceptable = Each-cons (record { within_limits = each_head within; c_within_d = h }) f.acceptable;
        in_range = f.in_range;
        c_above_d = f.c_above_d;
      }
  | no h ↦ record {
    before = [];
    row = q;
    after = qs;
    all = refl;
    acceptable = each_none _;
    in_range = each_head within;
    c_above_d = omega arith;
  }
]

-- The spellings of rows with one in the middle are those before it, its own, and those after it.
spelled_around : (before : List Row) (r : Row) (after : List Row)
    → flatten (map spelled_row (before ++ (r ∷ after))) ≡ flatten (map spelled_row before) ++ (spelled_row r ++ flatten (map spelled_row after))
unfolding flatten
spelled_around [] r after = refl
spelled_around (q ∷ before) r after =
    ap (λ l. spelled_row q ++ l) (spelled_around before r after) ∙ sym (append_assoc (spelled_row q) (flatten (map spelled_row before)) _)

-- Three parts stand one after the other, from the first byte on.
record InTurn (s first second third : List ℕ) : Type 0 where
  from : ℕ
  at : ℕ
  next : ℕ
  stands_first : PartStands s 0 first from
  stands_second : PartStands s from second at
  stands_third : PartStands s at third next

-- Bytes that are made of three parts and a rest have these parts in turn.
in_turn : (s first second third rest : List ℕ) → s ≡ first ++ (second ++ (third ++ rest)) → InTurn s first second third
in_turn s first second third rest apart =
    let one = parted first (second ++ (third ++ rest)) (subst (λ part. PartStands s 0 part (length s)) apart (stands_whole s)) in
    let two = parted second (third ++ rest) one.2 in
    let three = parted third rest two.2 in
    record { from = one.0; at = two.0; next = three.0; stands_first = one.1; stands_second = two.1; stands_third = three.1 }

pub hopeless_is_refused : HopelessIsRefused
hopeless_is_refused content more good few within r m above =
    let f = first_hopeless content.rows within r m above in
    let row = f.row in
    let timer = spelling content.s ++ spelling content.p in
    let count = spelling (length content.rows) in
    let first = spelling row.x ++ (spelling row.y ++ spelling row.d) in
    let front = flatten (map spelled_row f.before) in
    let servers = spelled_servers content.servers in
    let rest = flatten (map spelled_row f.after) ++ (servers ++ more) in
    let apart : spelled_table content ++ more ≡ timer ++ ((count ++ (front ++ first)) ++ (spelling row.c ++ rest)) =
    ap (λ l. (spelling content.s ++ (spelling content.p ++ ((count ++ l) ++ servers))) ++ more)
    (ap (λ l. flatten (map spelled_row l)) f.all ∙ spelled_around f.before row f.after) ∙ simp (append_assoc)
    in
    let parts = in_turn (spelled_table content ++ more) timer (count ++ (front ++ first)) (spelling row.c) rest apart in (
      parts.at,
      record {
        s = content.s;
        p = content.p;
        from = parts.from;
        timer = record { good_timer = good; before = parts.stands_first };
        its_row = record {
          count = length content.rows;
          rows = f.before;
          row = row;
          next = parts.next;
          few_rows = few;
          fewer = omega (arith, ap length f.all, length-append f.before (row ∷ f.after));
          rows_acceptable = f.acceptable;
          in_range = f.in_range;
          c_above_d = f.c_above_d;
          before = parts.stands_second;
          its_c = parts.stands_third;
        };
      },
    )

pub no_hopeless_row_is_judged : NoHopelessRowIsJudged
no_hopeless_row_is_judged table v b judged is r m = by_answer (table_read table).answer refl judged
  where
    by_answer : (a : Result ℕ RefusedAt) → (table_read table).answer ≡ a → RightOfRead (table_read table).table a v → r.c ≤ r.d
    by_answer (Ok period) e right = (accepted_is_usable table period b e).c_within_d r m
    by_answer (Err q) e right = absurd (⊎_elim
        (λ twenty. no_answer q.refusal (omega (arith, number_of right twenty)) (omega (arith, number_of right twenty)))
        (λ one_more. no_answer q.refusal (omega (arith, number_of right one_more)) (omega (arith, number_of right one_more)))
        is)
      where
        number_of : v ≡ verdict.Refused q → {n : ℕ} → (verdict_says v).number ≡ n → refusal_number q.refusal ≡ n
        number_of right e = sym (ap (λ w. (verdict_says w).number) right) ∙ e

pub hopeless_run_is_refused : HopelessRunIsRefused
hopeless_run_is_refused run all_places i in_use above = (
  λ row cost. ap (λ step. release_says step.answer) (sym (not_sound run row cost unsound)),
  ap (λ step. tick_says step.answer) (tick_unsound run unsound),
)
  where
    by_test_of : (b : Bool) → sound_of run ≡ b → b ≡ false
    by_test_of true e = absurd (omega (arith, ((sound_means run all_places).0 e).c_within_d i in_use))
    by_test_of false e = refl

    unsound : sound_of run ≡ false
    unsound = by_test_of (sound_of run) refl

-- ---- the host's calls

-- What is said of a refusal is its number, its place and 0.
verdict_told : (v : Verdict) → (verdict_says v).number ≡ 16 → verdict_says v ≡ refusal_at 16 (verdict_says v).first
verdict_told verdict.Feasible is = absurd (omega arith)
verdict_told (verdict.Overloaded o) is = absurd (omega arith)
verdict_told (verdict.Refused r) is = ap (λ number. refusal_at number r.place) is

pub verdict_call_hopeless : VerdictCallHopeless
verdict_call_hopeless table b lent written (host.VerdictAnswered.wrong_size l is w) = absurd (omega arith)
verdict_call_hopeless table b lent written (host.VerdictAnswered.said l v judged is w) =
    let told = verdict_told v (sym is) in
    record {
      place = (verdict_says v).first;
      hopeless = (verdict_says_hopeless table v (verdict_says v).first b judged).0 told;
      told = (answer_filled (refusal_at 16 (verdict_says v).first) written).1 (w ∙ ap answer_bytes told);
    }

-- What a replay says of a refusal is its number, its place and 0.
replay_told : (r : Replayed) → (replay_says r).number ≡ 16 → replay_says r ≡ refusal_at 16 (replay_says r).first
replay_told (replayed.InTime n) is = absurd (omega arith)
replay_told (replayed.Late l) is = absurd (omega arith)
replay_told (replayed.Refused r) is = ap (λ k. refusal_at k r.place) is

pub replay_call_hopeless : ReplayCallHopeless
replay_call_hopeless table script rows records log answer after left leaves = by_eq (length answer) answer_length
    (λ sixteen.
    let told = (replay_of_sixteen table script log answer 16 after left sixteen).0 leaves in
    let r = replay_of table script (length log) in
    let says = replay_told r (sym told.its_number) in
    record {
      place = (replay_says r).first;
      hopeless = (replay_says_hopeless table script (length log) (replay_says r).first rows records).0 says;
      told = subst (λ (said : Said). Filled said after) says told.its_answer;
    })
    (λ other.
    let thirteen : ◌≡◌ {A = ℕ} 16 13 = sym leaves.0 ∙ (replay_of_another_size table script log answer other).0 in
    absurd (omega arith))
