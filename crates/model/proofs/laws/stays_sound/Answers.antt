use Rattle.model.specs.Laws.{Sound, WithinRoom}
use Rattle.model.proofs.Soundness.{sound_new, sound_step, sound_entry_step}
use Rattle.model.proofs.Rooms.{within_new, within_step, within_entry_step}
use Rattle.model.proofs.Runs.{always}
use Rattle.model.proofs.laws.stays_sound.Goals as goal

pub returns : goal.returns
returns c = record {
  kept = λ S w R st s. (sound_step S w R st s, sound_entry_step S w R st s);
  within = λ S R st o w. (within_step S R st o w, within_entry_step S R st o w);
  always = λ S w R. always S R (λ st. Sound S st × WithinRoom R st)
      (λ st q k. (sound_step S w R st q.0 k, within_step S R st q.0.orderly q.1 k))
      (λ st q e. (sound_entry_step S w R st q.0 e, within_entry_step S R st q.0.orderly q.1 e))
      (sound_new S, within_new R);
}
