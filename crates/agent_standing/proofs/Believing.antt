-- Believing: what was told of an entry is what the Watch believes of it. For the turns of an agent.
use Rattle.std.proofs.Common.{ℕ, ◌<◌, Bool, Option, refl, sym, subst, arith}
use Rattle.watch_machine.specs.{declared.clocks.Clocks.Clocks, declared.track.End.End, declared.track.End.TheVariants.At, declared.track.Track.Track, State.WatchState, State.track_at}
use Rattle.agent_standing.specs.{declared.standing.Told.Told, Agent.Believes, Standings.told_end, Standings.told_of}
use Rattle.agent_standing.proofs.Left.{Word}

-- an end that was told just now
told_end_believed : (c : Clocks) → c.phase < 1000 → (renewable : Bool) (end : End) → Believes end renewable (told_end c renewable end)
told_end_believed c below renewable (At end) = (omega arith, (omega arith, refl))
told_end_believed c below renewable _ = refl

pub told_believed : (m : WatchState) (i : ℕ) → m.clocks.phase < 1000 → Believes (track_at m i).end (track_at m i).renewable (told_of m i)
told_believed m i below = told_end_believed m.clocks below (track_at m i).renewable (track_at m i).end

-- one that was told before, of a track that believes the same
pub still_believed : (y x : Track) (told : Option Told) → Word y x → Believes x.end x.renewable told → Believes y.end y.renewable told
still_believed y x told same h = subst (λ (w : Track). Believes w.end w.renewable told) (sym same) h
