-- The table's entries by the words that say which names are broader, with each name's number among the atoms.
use Rattle.std.specs.Prelude.{ℕ, ◌*◌, ◌/◌, ◌%◌, Bool, cond, not, ◌&&◌, ltb, get_or}
use Rattle.records.specs.Finite.{any_below, digit, bit}
use Rattle.taxonomy.specs.declared.table.Order.{Order}

module _ (order : Order) where
  abbrev pub is_above : ℕ → ℕ → Bool
  is_above i j = bit (get_or order.meets i 0) (get_or order.names.atoms j 0)

  abbrev pub strictly_above : ℕ → ℕ → Bool
  strictly_above i j = is_above i j && not (is_above j i)

  abbrev pub amid : ℕ → ℕ → Bool
  amid i j = any_below (λ m. strictly_above i m && strictly_above m j) order.names.count

  abbrev pub entry_of : ℕ → ℕ → ℕ
  entry_of i j = cond (is_above i j && is_above j i) 2 (digit (strictly_above i j && not (amid i j)))

  abbrev pub byte_at : ℕ → ℕ
  byte_at e =
      cond (ltb e (order.names.count * order.names.count)) (entry_of (e / order.names.count) (e % order.names.count)) 0
