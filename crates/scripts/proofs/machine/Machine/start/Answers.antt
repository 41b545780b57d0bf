-- `scripts::machine::Machine::start` meets its contract: one frame is open, and the array of zeros leads back to none.
-- Assumes nothing.
use Prim.Native.Nat.{ℕ, zero, suc, ◌≤◌}
use native.Mathlib.Omega.{arith}
use mathlib.Core.Path.{refl}
use lib.ListN.{replicate}
use Rattle.scripts.specs.Calculus.{frame_limit}
use Rattle.scripts.specs.Code.Machine.{unopened, opened_at, frames_from}
use Rattle.scripts.proofs.machine.Machine.start.Goals as goal

-- an array of zeros leads back to none
backs-none : (n f k : ℕ) → (opened_at (replicate n unopened) f).back ≤ k
backs-none zero f k = omega arith
backs-none (suc n) zero k = omega arith
backs-none (suc n) (suc f) k = backs-none n f k

pub invariant_of-result : goal.invariant_of-result
invariant_of-result c = record { deep = omega arith; leads = omega arith; backs = λ f. backs-none frame_limit f f }

pub returns : goal.returns
unfolding frames_from
returns c = refl
