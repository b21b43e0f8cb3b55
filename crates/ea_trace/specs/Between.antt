-- What may be asked between the lines of a trace, by the lines before.
use Rattle.std.specs.Prelude.{Bool, true, false, ◌&&◌, nat_lt, map, reverse}
use Rattle.ea_trace.specs.Language.{Earlier, WordLines, no_stops, sections, stage_after}
use Rattle.ea_trace.specs.Language.{stops_after}
use Rattle.ea_trace.specs.Lines.{line_of_words}
use Rattle.ea_trace.specs.declared.stages.Stage.{Stage}
use Rattle.ea_trace.specs.declared.stages.Stage.TheVariants.{Opening}

-- what these lines say, the newest first
abbrev pub earlier_of : WordLines → Earlier
earlier_of lines = reverse (map line_of_words lines)

abbrev pub is_opening : Stage → Bool
is_opening Opening = true
is_opening stage = false

-- whether a line after these stands in the section of a scheduler
abbrev pub in_section : Earlier → Bool
in_section earlier = is_opening (stage_after earlier)
    && (nat_lt 0 (sections earlier) && no_stops (stops_after earlier))
