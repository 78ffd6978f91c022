use Rattle.registers_windows.specs.Windows.{window_of}
use Rattle.registers_windows.proofs.inner.window.Goals as goal

pub returns : goal.returns
unfolding window_of
returns c =
    let a = c.args in
    λ i. record {
      left1 = a.r.wh0;
      right1 = a.r.wh1;
      left2 = a.r.wh2;
      right2 = a.r.wh3;
      invert1 = c.bit.ensures i;
      enable1 = c.bit-2.ensures i;
      invert2 = c.bit-3.ensures i;
      enable2 = c.bit-4.ensures i;
      logic = a.logic;
    }
