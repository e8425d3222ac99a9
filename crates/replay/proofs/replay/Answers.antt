-- `replay::replay` meets its contract. A table that is refused stops it at once, and otherwise the script is played on the fresh run of the table. After a
-- refusal the log is filled with zeros.
use Prim.Native.Nat.{ℕ}
use mathlib.Core.Path.{◌≡◌}
use lib.ListN.{length, replicate}
use Rattle.std.proofs.Common.{rules}
use Rattle.replay.proofs.Replaying.{started_ready, CameTo, table_refused, table_accepted, replay_in_time, replay_late, replay_refused}
use Rattle.replay.proofs.replay.Goals as goal
use Rattle.replay.proofs.replay.Goals.{in-Ok, in-Err}

pub play-played-requires : goal.play-played-requires
play-played-requires c =
    let a = c.args in
    started_ready a.table.now a.script.now a.log.now c.read_table-read.ensures (λ i. (c.type_inv.table i).fits)

pub returns-then-jobs-eq0 : goal.returns-then-jobs-eq0
returns-then-jobs-eq0 c =
    let a = c.args in
    let came : CameTo a.table.now a.script.now a.log.now c.match-read.log c.match-read.played =
    elim c.match-read.branch [
      | in-Ok w ↦ rw (w.log-is, w.played-is)
          (table_accepted a.table.now a.script.now a.log.now c.read_table-read.ensures w.in-Ok.is
          w.play-played.new.log w.play-played.result w.play-played.ensures)
      | in-Err w ↦ rw (w.log-is, w.played-is) (table_refused a.table.now a.script.now a.log.now c.read_table-read.ensures w.in-Err.is)
    ] in
    replay_in_time a.table.now a.script.now a.log.now c.match-read.log c.match-read.played came c.in-Ok-played.is c.if-jobs-eq0.true

pub returns-else-jobs-eq0 : goal.returns-else-jobs-eq0
returns-else-jobs-eq0 c =
    let a = c.args in
    let came : CameTo a.table.now a.script.now a.log.now c.match-read.log c.match-read.played =
    elim c.match-read.branch [
      | in-Ok w ↦ rw (w.log-is, w.played-is)
          (table_accepted a.table.now a.script.now a.log.now c.read_table-read.ensures w.in-Ok.is
          w.play-played.new.log w.play-played.result w.play-played.ensures)
      | in-Err w ↦ rw (w.log-is, w.played-is) (table_refused a.table.now a.script.now a.log.now c.read_table-read.ensures w.in-Err.is)
    ] in
    replay_late a.table.now a.script.now a.log.now c.match-read.log c.match-read.played came c.in-Ok-played.is c.if-jobs-eq0.false

pub returns-in-Err-played : goal.returns-in-Err-played
returns-in-Err-played c =
    let a = c.args in
    let came : CameTo a.table.now a.script.now a.log.now c.match-read.log c.match-read.played =
    elim c.match-read.branch [
      | in-Ok w ↦ rw (w.log-is, w.played-is)
          (table_accepted a.table.now a.script.now a.log.now c.read_table-read.ensures w.in-Ok.is
          w.play-played.new.log w.play-played.result w.play-played.ensures)
      | in-Err w ↦ rw (w.log-is, w.played-is) (table_refused a.table.now a.script.now a.log.now c.read_table-read.ensures w.in-Err.is)
    ] in
    let zeros : c.fill.new.self ≡ replicate {A = ℕ} (length c.match-read.log) 0 = search rules in
    replay_refused a.table.now a.script.now a.log.now c.match-read.log c.match-read.played came c.in-Err-played.is zeros
