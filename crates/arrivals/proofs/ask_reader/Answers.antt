-- A reader that does not find the value asks for nothing; any other asks that the value is in time.
-- Assumes nothing.
use mathlib.Core.Path.{◌≡◌, sym, ◌∙◌}
use mathlib.Core.Bool.{true}
use Rattle.rules.specs.Sets.{shares}
use Rattle.raises.specs.RaiseLaws.{raised_as}
use Rattle.arrivals.proofs.ask_reader.Goals as goal

pub returns : goal.returns
returns c =
    let a = c.args in
    let met : shares a.modes a.fresh ≡ true = sym c.meets.ensures ∙ c.if-not-meets.false in
    raised_as (λ q. (λ y e. y, λ y. y met)) c.in_time.ensures
