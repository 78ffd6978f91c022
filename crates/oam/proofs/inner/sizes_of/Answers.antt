use Rattle.oam.proofs.Fair.{is_last}
use Rattle.oam.specs.Sprites.{sizes_of}
use mathlib.Core.Path.{◌∙◌}
use Rattle.oam.proofs.inner.sizes_of.Goals as goal

pub returns-in-0 : goal.returns-in-0
unfolding sizes_of
returns-in-0 c = c.both.ensures ∙ rw c.in-0.is

pub returns-in-1 : goal.returns-in-1
unfolding sizes_of
returns-in-1 c = c.both-in-1.ensures ∙ rw c.in-1.is

pub returns-in-2 : goal.returns-in-2
unfolding sizes_of
returns-in-2 c = c.both-in-2.ensures ∙ rw c.in-2.is

pub returns-in-3 : goal.returns-in-3
unfolding sizes_of
returns-in-3 c = c.both-in-3.ensures ∙ rw c.in-3.is

pub returns-in-4 : goal.returns-in-4
unfolding sizes_of
returns-in-4 c = c.both-in-4.ensures ∙ rw c.in-4.is

pub returns-in-5 : goal.returns-in-5
unfolding sizes_of
returns-in-5 c = c.both-in-5.ensures ∙ rw c.in-5.is

pub returns-in-6 : goal.returns-in-6
unfolding sizes_of
returns-in-6 c = c.both-in-6.ensures ∙ rw c.in-6.is

pub returns-in_default : goal.returns-in_default
unfolding sizes_of
returns-in_default c =
    let r = c.in_default.in_default-own.rest in
    let n = c.args.setting in
    c.both-in_default.ensures ∙ rw (is_last n c.requires r.0.0.0.0.0.0.1 r.0.0.0.0.0.1 r.0.0.0.0.1 r.0.0.0.1 r.0.0.1 r.0.1 r.1)
