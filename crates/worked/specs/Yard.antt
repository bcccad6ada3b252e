-- The plan of a small yard: tasks 2, 5 and 7, of which 2 and 5 use resource 0, and no event.
use Rattle.std.specs.Prelude.{ℕ, zero, suc, List, ◌∷◌, replicate, refl}
use Rattle.std.proofs.Common.{arith, lit≤}
use Rattle.vectors.specs.Vectors.{in_vector, some}
use Rattle.vectors.proofs.Vectors.{none_strays}
use Rattle.plan.specs.declared.record.Plan.{Plan}
use Rattle.plan.specs.Rows.{Inside, EmptyFrom}
use Rattle.plan.proofs.Zeros.{zeros, none_inside}

-- Tasks 2 and 5 use resource 0, and the rows of 31 more are empty.
abbrev pub yard_users : List ℕ
yard_users = 0x24 ∷ replicate 31 0

pub yard_end : EmptyFrom yard_users 1
yard_end zero l = absurd (omega arith)
yard_end (suc r) l = zeros 31 r

pub yard_inside : Inside yard_users 0xa4
unfolding some
yard_inside zero t e = none_strays 0x24 (in_vector 0xa4) refl t e
yard_inside (suc r) t e = none_inside 31 0xa4 r t e

abbrev pub yard : Plan
yard = record {
  declared = 0xa4;
  resources = 1;
  events = 0;
  users = yard_users;
  registered = replicate 32 0;
  few_resources = lit≤ tt;
  few_events = lit≤ tt;
  users_inside = yard_inside;
  registered_inside = none_inside 32 0xa4;
  users_end = yard_end;
  registered_end = λ e l. zeros 32 e;
}
