use Rattle.books.proofs.Counts.{count_listed}
use Rattle.books.proofs.Members.{length_members, listed_members}
use Rattle.books.proofs.sets_have_their_members.Goals as goal

pub returns : goal.returns
returns c = record { counted = length_members; told = listed_members; few = count_listed }
