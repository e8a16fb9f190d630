-- The documents' numbers and values for each case of the code's types. Definitions only.
use Rattle.std.specs.Prelude.{Bool, true, false, ◌&&◌, ℤ, Option, Some, None}
use Rattle.std.specs.Float.Ieee.{Float}
use Rattle.rules.specs.Screen as screens
use Rattle.rules.specs.Limits as paper
use Rattle.rules.specs.Book.{could_hold, variables}
use Rattle.rules.specs.Entries.{variables_entry}
use Rattle.gauge.specs.declared.Spread as spread
use Rattle.gauge.specs.declared.Limit as limit
use Rattle.gauge.specs.declared.Limits as limits
use Rattle.gauge.specs.declared.Shown.{Shown}

-- a mean, and the variance beside it
abbrev pub shown_as : Float → Option Float → screens.Shown
shown_as m None = screens.Shown.mean m
shown_as m (Some v) = screens.Shown.mean_and_variance m v

abbrev pub shown_paper : Shown → screens.Shown
shown_paper s = shown_as s.mean s.variance

abbrev pub spread_paper : spread.Spread → paper.Spread
spread_paper spread.TheVariants.Estimated = paper.Spread.estimated
spread_paper (spread.TheVariants.Known sigma) = paper.Spread.known sigma

abbrev pub is_upper : limit.Limit → Bool
is_upper (limit.TheVariants.Upper z) = true
is_upper (limit.TheVariants.Lower z) = false

abbrev pub value_of : limit.Limit → ℤ
value_of (limit.TheVariants.Upper z) = z
value_of (limit.TheVariants.Lower z) = z

abbrev pub limits_paper : limits.Limits → paper.Limits
limits_paper (limits.TheVariants.One l) = paper.Limits.one (is_upper l) (value_of l)
limits_paper (limits.TheVariants.Both upper lower) = paper.Limits.both upper lower

-- could a sound book hold the plan of each side?
abbrev pub sides_held : paper.SidesPlan → Bool
sides_held p =
    could_hold variables (variables_entry (paper.side_of true p))
    && could_hold variables (variables_entry (paper.side_of false p))
