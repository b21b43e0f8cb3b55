-- What one line of a trace says, by itself (`line_of_words`).
-- This simulator's own: the sources do not speak of it.
use Rattle.std.specs.Prelude.{ℕ, min, Bool, false, if◌then◌else◌, ◌==◌, List, [], ◌∷◌, Option, Some}
use Rattle.std.specs.Prelude.{None, codes, bytes_eq, option_and_then, option_map, unwrap_or}
use Rattle.std.specs.List.{find, slice_split}
use Rattle.ea_model.specs.Words.{from_to, number, numeral}
use Rattle.ea_model.specs.declared.operations.Op.{Op}
use Rattle.ea_model.specs.declared.operations.Op.TheVariants.{Alloc, Free, Realloc, Give, Take}
use Rattle.ea_model.specs.declared.operations.Op.TheVariants.{Info, Idle}
use Rattle.ea_model.specs.declared.settings.Letter.{Letter}
use Rattle.ea_model.specs.declared.settings.Letter.TheVariants as letter
use Rattle.ea_model.specs.declared.trace.Stop.{Stop}
use Rattle.ea_model.specs.declared.trace.Turns as model
use Rattle.ea_model.specs.declared.units.TheConstants.{MAX_BYTES, MAX_NAME, MAX_SEED, MAX_STEPS}
use Rattle.ea_model.specs.declared.units.TheConstants.{MAX_TRIES, MAX_TURNS}
use Rattle.ea_trace.specs.declared.keywords.Keyword.{Keyword}
use Rattle.ea_trace.specs.declared.keywords.Keyword.TheVariants as keyword
use Rattle.ea_trace.specs.declared.keywords.OpKind.{OpKind}
use Rattle.ea_trace.specs.declared.keywords.OpKind.TheVariants as kind
use Rattle.ea_trace.specs.declared.lines.Line.{Line}
use Rattle.ea_trace.specs.declared.lines.Line.TheVariants as line
use Rattle.ea_trace.specs.declared.lines.TheConstants.{MAX_READ}

-- a line, with the list of its turns
abbrev pub Said : Type 0
Said = Line (List model.Turns)

-- a name, from 1 on
abbrev pub name_in : List ℕ → Option ℕ
name_in word = number 1 MAX_NAME word

-- the bytes of a request
abbrev pub bytes_in : List ℕ → Option ℕ
bytes_in word = number 0 MAX_BYTES word

-- the number of a scheduler, be there one or not; a greater one than MAX_READ is read as that
abbrev pub scheduler_in : List ℕ → Option ℕ
scheduler_in word = option_map (min MAX_READ) (numeral word)

-- how many operations each scheduler of a generated trace has, from 1 on; a greater number than
-- MAX_READ is read as that
abbrev pub count_in : List ℕ → Option ℕ
count_in word = from_to 1 MAX_READ (scheduler_in word)

abbrev pub pair : {X : Type 0} → (ℕ → ℕ → X) → Option ℕ → Option ℕ → Option X
pair f (Some a) (Some b) = Some (f a b)
pair f (Some a) None = None
pair f None b = None

abbrev pub triple : {X : Type 0} → (ℕ → ℕ → ℕ → X) → Option ℕ → Option ℕ → Option ℕ → Option X
triple f (Some a) b c = pair (f a) b c
triple f None b c = None

-- the word of a list of one
abbrev pub only_word : List (List ℕ) → Option (List ℕ)
only_word [] = None
only_word (w ∷ []) = Some w
only_word (w ∷ v ∷ ws) = None

-- the words of a list of two
abbrev pub both_words : List (List ℕ) → Option (List ℕ × List ℕ)
both_words [] = None
both_words (w ∷ []) = None
both_words (w ∷ v ∷ []) = Some (w, v)
both_words (w ∷ v ∷ u ∷ ws) = None

-- the words of a list of three
abbrev pub three_words : List (List ℕ) → Option (List ℕ × List ℕ × List ℕ)
three_words [] = None
three_words (w ∷ []) = None
three_words (w ∷ v ∷ []) = None
three_words (w ∷ v ∷ u ∷ []) = Some (w, v, u)
three_words (w ∷ v ∷ u ∷ t ∷ ws) = None

-- what a line that is its keyword alone says
abbrev pub bare : {X : Type 0} → X → List (List ℕ) → Option X
bare x [] = Some x
bare x (w ∷ ws) = None

abbrev pub alloc_in : List (List ℕ) → Option Op
alloc_in ws = option_and_then (λ w. pair Alloc (name_in w.0) (bytes_in w.1)) (both_words ws)

abbrev pub free_in : List (List ℕ) → Option Op
free_in ws = option_map Free (option_and_then name_in (only_word ws))

abbrev pub realloc_in : List (List ℕ) → Option Op
realloc_in ws = option_and_then
    (λ w. triple Realloc (name_in w.0) (name_in w.1) (bytes_in w.2)) (three_words ws)

abbrev pub give_in : List (List ℕ) → Option Op
give_in ws = option_and_then (λ w. pair Give (name_in w.0) (scheduler_in w.1)) (both_words ws)

abbrev pub take_in : List (List ℕ) → Option Op
take_in ws = option_and_then
    (λ w. pair Take (name_in w.0) (number 1 MAX_TRIES w.1)) (both_words ws)

-- the kind of the operations that a word names
abbrev pub kind_in : List ℕ → Option OpKind
kind_in w =
    if bytes_eq w (codes "alloc") then Some kind.Alloc else (
    if bytes_eq w (codes "free") then Some kind.Free else (
    if bytes_eq w (codes "realloc") then Some kind.Realloc else (
    if bytes_eq w (codes "give") then Some kind.Give else (
    if bytes_eq w (codes "take") then Some kind.Take else (
    if bytes_eq w (codes "info") then Some kind.Info else (
    if bytes_eq w (codes "idle") then Some kind.Idle else None))))))

-- an operation of that kind by the words after its name
abbrev pub operation_of : List (List ℕ) → OpKind → Option Op
operation_of ws kind.Alloc = alloc_in ws
operation_of ws kind.Free = free_in ws
operation_of ws kind.Realloc = realloc_in ws
operation_of ws kind.Give = give_in ws
operation_of ws kind.Take = take_in ws
operation_of ws kind.Info = bare Info ws
operation_of ws kind.Idle = bare Idle ws

-- an operation by its name and the words after it
abbrev pub operation_in : List ℕ → List (List ℕ) → Option Op
operation_in w ws = option_and_then (operation_of ws) (kind_in w)

-- the word of a letter
abbrev pub letter_word : Letter → List ℕ
letter_word letter.B = codes "B"
letter_word letter.D = codes "D"
letter_word letter.E = codes "E"
letter_word letter.H = codes "H"
letter_word letter.L = codes "L"
letter_word letter.R = codes "R"
letter_word letter.S = codes "S"
letter_word letter.T = codes "T"

-- the words of the line of a letter
abbrev pub type_line : Letter → List (List ℕ)
type_line x = codes "type" ∷ letter_word x ∷ []

abbrev pub all_letters : List Letter
all_letters = letter.B ∷ letter.D ∷ letter.E ∷ letter.H ∷ letter.L ∷ letter.R ∷ letter.S
    ∷ letter.T ∷ []

-- the letter of an allocator
abbrev pub letter_in : List ℕ → Option Letter
letter_in w = find (λ l. bytes_eq w (letter_word l)) all_letters

-- a star
abbrev pub is_star : ℕ → Bool
is_star b = b == 42

abbrev pub turns_from : ℕ → ℕ → model.Turns
turns_from s k = record { scheduler = s; count = k }

-- one turn, S, or several, S*K
abbrev pub turns_of_parts : List (List ℕ) → Option model.Turns
turns_of_parts [] = None
turns_of_parts (s ∷ []) = pair turns_from (scheduler_in s) (Some 1)
turns_of_parts (s ∷ k ∷ []) = pair turns_from (scheduler_in s) (number 1 MAX_TURNS k)
turns_of_parts (s ∷ k ∷ j ∷ parts) = None

abbrev pub turns_at : List ℕ → Option model.Turns
turns_at word = turns_of_parts (slice_split is_star word)

abbrev pub and_turns : Option model.Turns → Option (List model.Turns) → Option (List model.Turns)
and_turns (Some t) (Some ts) = Some (t ∷ ts)
and_turns (Some t) None = None
and_turns None ts = None

-- the turns that these words spell, if each spells some
abbrev pub turns_in : List (List ℕ) → Option (List model.Turns)
turns_in [] = Some []
turns_in (w ∷ ws) = and_turns (turns_at w) (turns_in ws)

abbrev pub letter_line : Letter → Said
letter_line l = line.Letter l

abbrev pub section_line : ℕ → Said
section_line n = line.Section n

abbrev pub generate_line : ℕ → ℕ → Said
generate_line seed count = line.Generate seed count

abbrev pub stop_line : Stop → Said
stop_line s = line.Stop s

abbrev pub turns_line : List model.Turns → Said
turns_line ts = line.Turns ts

abbrev pub type_in : List (List ℕ) → Option Said
type_in ws = option_map letter_line (option_and_then letter_in (only_word ws))

abbrev pub section_in : List (List ℕ) → Option Said
section_in ws = option_map section_line (option_and_then scheduler_in (only_word ws))

abbrev pub stop_from : ℕ → ℕ → Stop
stop_from s k = record { scheduler = s; steps = k }

-- a stop: a scheduler, be it there or not, and its steps
abbrev pub stop_in : List (List ℕ) → Option Said
stop_in ws = option_map stop_line (option_and_then
    (λ w. pair stop_from (scheduler_in w.0) (number 0 MAX_STEPS w.1)) (both_words ws))

abbrev pub generate_in : List (List ℕ) → Option Said
generate_in ws = option_and_then
    (λ w. pair generate_line (number 0 MAX_SEED w.0) (count_in w.1)) (both_words ws)

-- an operation, or else turns
abbrev pub one_of : Option Op → Option (List model.Turns) → Option Said
one_of (Some o) ts = Some (line.Operation o)
one_of None ts = option_map turns_line ts

-- the keyword that a word is
abbrev pub keyword_in : List ℕ → Option Keyword
keyword_in w =
    if bytes_eq w (codes "threads") then Some keyword.Threads else (
    if bytes_eq w (codes "schedule") then Some keyword.Schedule else (
    if bytes_eq w (codes "end") then Some keyword.End else (
    if bytes_eq w (codes "type") then Some keyword.Letter else (
    if bytes_eq w (codes "scheduler") then Some keyword.Section else (
    if bytes_eq w (codes "stop") then Some keyword.Stop else (
    if bytes_eq w (codes "generate") then Some keyword.Generate else None))))))

-- a line by its keyword, if it begins with one, its first word and the words after it
abbrev pub command_of : Option Keyword → List ℕ → List (List ℕ) → Option Said
command_of (Some keyword.Threads) w ws = bare line.Threads ws
command_of (Some keyword.Schedule) w ws = bare line.Schedule ws
command_of (Some keyword.End) w ws = bare line.End ws
command_of (Some keyword.Letter) w ws = type_in ws
command_of (Some keyword.Section) w ws = section_in ws
command_of (Some keyword.Stop) w ws = stop_in ws
command_of (Some keyword.Generate) w ws = generate_in ws
command_of None w ws = one_of (operation_in w ws) (turns_in (w ∷ ws))

-- a line by its first word and the words after it
abbrev pub command : List ℕ → List (List ℕ) → Option Said
command w ws = command_of (keyword_in w) w ws

-- a word that begins with '#'
abbrev pub is_comment : List ℕ → Bool
is_comment [] = false
is_comment (b ∷ bs) = b == 35

-- a line by its words; one without words and a comment are skipped
abbrev pub line_of_words : List (List ℕ) → Said
line_of_words [] = line.Skipped
line_of_words (w ∷ ws) = if is_comment w then line.Skipped
    else unwrap_or (command w ws) line.Unreadable
