-- The roof: every statement that is owed of the judge. Assumes nothing.
use Rattle.model.specs.Shape.{eight, four, shape_of}
use Rattle.model.proofs.Lent.{fit}
use Rattle.judgement.specs.Owed.{Owed}
use Rattle.judgement.proofs.AsWritten as written
use Rattle.judgement.proofs.AtHome as home
use Rattle.judgement.proofs.Sound as sound
use Rattle.judgement.proofs.Judges as judges
use Rattle.judgement.proofs.Refuted as refuted
use Rattle.judgement.proofs.FromThenOn as worth
use Rattle.judgement.proofs.Decides as decides

pub owed : Owed
owed =
    record {
      sound_iff = sound.sound_iff;
      broken_first = sound.broken_first;
      ours_judges = judges.ours_judges;
      one_judge = judges.one_judge;
      yes_to_all = refuted.yes_to_all;
      no_to_all = refuted.no_to_all;
      number_0_always = refuted.number_0_always;
      ours_sound = sound.ours_sound four;
      eight_sound = sound.ours_sound eight;
      sound_then_demands = worth.sound_then_demands;
      pointers_at_home = home.pointers_at_home;
      twins_at_home = home.twins_at_home;
      stray_iff = λ W m. judges.stray_words (shape_of W m) m;
      unsought_iff = λ W m. judges.unsought_words (shape_of W m) m;
      doubled_iff = λ W m r. judges.doubled_words (shape_of W m) m (fit W m r).items_fit;
      decides_judge = decides.decides_judge;
      all_hold = written.all_hold;
    }
