-- The text of a book (`book_text`).
-- This simulator's own: the sources do not speak of it.
use Rattle.std.specs.Prelude.{ℕ, List, ◌++◌, codes, decimal}
use Rattle.std.specs.List.{flat_map}
use Rattle.ea_segments.specs.declared.calls.Book.{Book}
use Rattle.ea_segments.specs.declared.calls.Call.{Call}
use Rattle.ea_segments.specs.declared.calls.Reply.{Reply}
use Rattle.ea_segments.specs.declared.calls.Reply.TheVariants.{At, Done, Full, NoRun, Skipped}

-- what a call asked for, and its reply
abbrev pub reply_text : Call → Reply → List ℕ
reply_text c (At start) = codes " take " ++ decimal c.name ++ codes " at " ++ decimal start
    ++ codes " " ++ decimal c.pages ++ codes "\n"
reply_text c NoRun = codes " take " ++ decimal c.name ++ codes " none\n"
reply_text c Full = codes " take " ++ decimal c.name ++ codes " full\n"
reply_text c Done = codes " back " ++ decimal c.name ++ codes " done\n"
reply_text c Skipped = codes " back " ++ decimal c.name ++ codes " skipped\n"

-- the line of a call, by its scheduler
abbrev pub call_text : Call → List ℕ
call_text c = decimal c.scheduler ++ reply_text c c.reply

-- the last line
abbrev pub totals_text : (segments pages free : ℕ) → List ℕ
totals_text segments pages free = codes "total segments " ++ decimal segments ++ codes " pages "
    ++ decimal pages ++ codes " free " ++ decimal free ++ codes "\n"

-- a line for each call in its order, and the totals
abbrev pub book_text : Book → List ℕ
book_text book = flat_map call_text book.history.items
    ++ totals_text book.segments book.pages book.free
