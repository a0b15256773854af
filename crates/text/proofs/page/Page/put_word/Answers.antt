-- The bytes of the word stand behind what was used.
use mathlib.Core.Path.{refl}
use native.Mathlib.Omega.{arith}
use Rattle.text.proofs.Adds.{adds}
use Rattle.text.proofs.Puts.{word_put}
use Rattle.text.proofs.page.Page.put_word.Goals as goal

pub returns : goal.returns
returns c = adds _ _ _ (word_put _ _ _ _ c.requires c.copy_from_slice.ensures.after) (omega arith) refl
