-- The kinds of the code's enum, and the numbers that they are read from.
--   same_kind          what a number reads as has its line of the table
-- Assumes nothing.
use Prim.Native.Nat.{ℕ, zero, suc}
use mathlib.Core.Path.{◌≡◌, refl, sym, ap, ◌∙◌}
use Rattle.std.proofs.Common.{Option, Some, None}
use Rattle.records.specs.Kinds.{Kind as Line, no_kind, kind_of}
use Rattle.records.specs.Code.Kinds.{number_of_kind, kind_numbered}
use Rattle.records.specs.declared.kinds.Kind.{Kind}

-- the line of the table that the kind which was read has
abbrev pub told : Option Kind → Line
told None = no_kind
told (Some k) = kind_of (number_of_kind k)

same_line : (n : ℕ) → told (kind_numbered n) ≡ kind_of n
unfolding kind_of
same_line zero = refl
same_line (suc zero) = refl
same_line (suc (suc zero)) = refl
same_line (suc (suc (suc zero))) = refl
same_line (suc (suc (suc (suc zero)))) = refl
same_line (suc (suc (suc (suc (suc zero))))) = refl
same_line (suc (suc (suc (suc (suc (suc zero)))))) = refl
same_line (suc (suc (suc (suc (suc (suc (suc zero))))))) = refl
same_line (suc (suc (suc (suc (suc (suc (suc (suc zero)))))))) = refl
same_line (suc (suc (suc (suc (suc (suc (suc (suc (suc zero))))))))) = refl
same_line (suc (suc (suc (suc (suc (suc (suc (suc (suc (suc k)))))))))) = refl

pub same_kind : (n : ℕ) (read o : Option Kind) → read ≡ kind_numbered n → read ≡ o → told o ≡ kind_of n
same_kind n read o e is = ap told (sym is ∙ e) ∙ same_line n
