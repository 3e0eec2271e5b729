use Rattle.listings.proofs.OneText.{one_text}
use Rattle.listings.proofs.sheets_have_one_text.Goals as goal

pub returns : goal.returns
returns c = one_text
