-- `replay::steps::play_record` meets its contract: the ticks until the record's script time are given, and then its release settles the answer.
use native.Mathlib.Omega.{arith}
use mathlib.Core.Path.{◌≡◌, refl}
use Rattle.replay.proofs.Releasing.{WasAsked, stops_full, stops_due, goes_further}
use Rattle.replay.proofs.steps.play_record.Goals as goal
use Rattle.replay.proofs.steps.play_record.Goals.{in-Row, in-Server}

pub returns-then-going-ge-PLACES : goal.returns-then-going-ge-PLACES
returns-then-going-ge-PLACES c =
    let ran = c.run_until in
    (ran.ensures.0, λ p log₀ w may. rw c.at.ensures (stops_full w may c.requires.1.in_time ran.ensures.1 c.args.place c.if-going-ge-PLACES.true))

pub returns-in-Err : goal.returns-in-Err
returns-in-Err c =
    let a = c.args in
    let ran = c.run_until in
    let asked : WasAsked a.going.now a.ready.row.0 a.source a.ready.time.0 a.ready.cost c.match-source.given
    c.match-source.going.rings c.match-source.going.lasts =
    elim c.match-source.branch [
      | in-Row w ↦ rw (w.in-Row.is, w.going-is, w.given-is)
          (record { given = w.next_due-given.ensures.answer; rings_then = w.next_due-given.ensures.rings; lasts_then = refl })
      | in-Server w ↦ rw (w.in-Server.is, w.going-is, w.given-is)
          (record { given = w.next_odd-given.ensures.0; rings_then = refl; lasts_then = w.next_odd-given.ensures.1 })
    ] in (
      ran.ensures.0,
      λ p log₀ w may.
          rw c.at-in-Err.ensures
          (stops_due w may c.requires.1.in_time ran.ensures.1 a.place (omega (arith, c.if-going-ge-PLACES.false)) asked c.in-Err.is),
    )

pub returns-in-Ok-put : goal.returns-in-Ok-put
returns-in-Ok-put c =
    let a = c.args in
    let ran = c.run_until in
    let asked : WasAsked a.going.now a.ready.row.0 a.source a.ready.time.0 a.ready.cost c.match-source.given
    c.match-source.going.rings c.match-source.going.lasts =
    elim c.match-source.branch [
      | in-Row w ↦ rw (w.in-Row.is, w.going-is, w.given-is)
          (record { given = w.next_due-given.ensures.answer; rings_then = w.next_due-given.ensures.rings; lasts_then = refl })
      | in-Server w ↦ rw (w.in-Server.is, w.going-is, w.given-is)
          (record { given = w.next_odd-given.ensures.0; rings_then = refl; lasts_then = w.next_odd-given.ensures.1 })
    ] in
    let jobs_stay : c.match-source.going.jobs ≡ ran.new.jobs =
    elim c.match-source.branch [ in-Row w ↦ rw w.going-is refl | in-Server w ↦ rw w.going-is refl ] in
    let next_stays : c.match-source.going.next ≡ a.going.now.next =
    elim c.match-source.branch [ in-Row w ↦ rw w.going-is refl | in-Server w ↦ rw w.going-is refl ] in
    let logged_stays : c.match-source.going.logged ≡ ran.new.logged =
    elim c.match-source.branch [ in-Row w ↦ rw w.going-is refl | in-Server w ↦ rw w.going-is refl ] in (
      ran.ensures.0,
      λ p log₀ w may.
          rw (next_stays, logged_stays)
          (goes_further w may c.requires.1.in_time ran.ensures.1 a.place (omega (arith, c.if-going-ge-PLACES.false)) asked c.in-Ok.is
          (rw (jobs_stay, next_stays) at c.put.ensures.columns)),
    )
