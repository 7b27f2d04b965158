-- The roof: every statement that is owed of the plain engine. Assumes nothing.
use Rattle.plain.specs.Owed.{Owed}
use Rattle.plain.proofs.AsWritten as written
use Rattle.plain.proofs.Says as says
use Rattle.plain.proofs.SameAsRead as same
use Rattle.plain.proofs.WhyApart as why

pub owed : Owed
owed =
    record {
      says = says.plain_says;
      agrees_on = same.plain_agrees_on;
      agrees = same.plain_agrees;
      gate_agrees = same.gate_plain;
      eight_agrees = same.eight_plain;
      agrees_or_apart = why.plain_or_apart;
      fresh_anywhere = says.plain_fresh;
      fresh_iff_left = says.plain_left;
      retired_reads = says.plain_retired;
      all_hold = written.all_hold;
    }
