-- One store.
use mathlib.Core.Path.{refl}
use native.Mathlib.Omega.{arith}
use Rattle.text.proofs.Adds.{adds}
use Rattle.text.proofs.Puts.{byte_put}
use Rattle.text.proofs.page.Page.put_byte.Goals as goal

pub returns : goal.returns
returns c = adds _ _ _ (byte_put _ _ _) (omega arith) refl
