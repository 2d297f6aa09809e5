-- `slide` meets its contract: the bytes that are left come first.
use Rattle.std.proofs.Common.{refl, arith}
use lib.ListN.{length-append, length-drop, length-take}
use Rattle.month_input.proofs.Slides.{slid}
use Rattle.month_input.proofs.slide.Goals as goal

pub returns : goal.returns
returns c =
    let a = c.args in
    let turned = c.rotate_left in (
      refl,
      slid a.window.now a.used a.have (omega arith) (omega arith) _ _ turned.ensures.after,
      simp (length-append, length-drop) (omega (arith, turned.ensures.len, length-take a.have a.window.now)),
    )
