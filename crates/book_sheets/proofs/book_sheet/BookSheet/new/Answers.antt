use Rattle.std.proofs.Common.{[], ◌∷◌, refl}
use Rattle.book_sheets.proofs.Models.{sheet_lawful}
use Rattle.book_sheets.proofs.book_sheet.BookSheet.new.Goals as goal

pub invariant_of-result : goal.invariant_of-result
invariant_of-result c = record { ok = refl; lawful = ∣ sheet_lawful (0 ∷ 0 ∷ 0 ∷ 0 ∷ 0 ∷ 0 ∷ 0 ∷ 12 ∷ 0 ∷ 0 ∷ 0 ∷ 12 ∷ []) refl ∣₁ }
