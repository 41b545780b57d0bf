-- `types::type_data::Plan::describe_types` meets its contract. The loop's invariant: the four tables are right below `t`, and no
-- type from there on is alive.
-- Assumes nothing.
use Prim.Native.Nat.{ℕ}
use mathlib.Core.Bool.{Bool, false}
use mathlib.Core.List.{List}
use Rattle.types.specs.Survivors.{satisfies}
use Rattle.types.specs.Code.Words.{restriction_word, filler_word}
use Rattle.types.specs.Code.Settling.{differ}
use Rattle.records.proofs.Laws.Filling.{Filled, Ends}
use Rattle.types.specs.Comparison.{type_limit}
use Rattle.types.proofs.type_data.Plan.describe_types.Given as goal

pub record Profiling (v : List ℕ) (a b : ℕ) (alive differs : List Bool) (held filling : List ℕ) (t : ℕ) : Type 0 where
  pub alive_filled : Filled false type_limit alive (satisfies v) t
  pub ends : Ends alive t
  pub differs_filled : Filled false type_limit differs (differ v a b) t
  pub held_filled : Filled 0 type_limit held (restriction_word v) t
  pub filling_filled : Filled 0 type_limit filling (filler_word v) t

abbrev pub invariant-loop-t : goal.invariant-loop-t
invariant-loop-t l =
    Profiling l.self.v.now l.self.a l.self.b l.alive l.differs l.held l.filling l.t
