-- What code knows of a row, of its answer and of a group of steps has the words of their
-- definitions.
use Rattle.std.proofs.Common.{◌≡◌, ℕ, ◌==◌, Bool, true, false, ◌∷◌, ◌++◌, decimal}
use Rattle.std.proofs.Common.{Option, None, Some, if◌then◌else◌, refl, ap, ◌∙◌}
use Rattle.ea_model.specs.Content.{Content}
use Rattle.ea_machine.specs.declared.nodes.Node.{Node}
use Rattle.ea_machine.specs.declared.parts.Part.{Part}
use Rattle.ea_machine.specs.declared.parts.Part.TheVariants.{Own, Traitors, Pool}
use Rattle.ea_machine.specs.declared.stages.Route.{Route}
use Rattle.ea_machine.specs.declared.stages.Route.TheVariants as route
use Rattle.ea_machine.specs.declared.stages.Stage.{Stage}
use Rattle.ea_machine.specs.declared.stages.Stage.TheVariants as stage
use Rattle.ea_machine.specs.Actor.{Actor}
use Rattle.ea_machine.specs.Machine.{begins, wants, wants_at, wants_on}
use Rattle.ea_machine.specs.Rows.{Answer, Done, Head, Rests, Passes, Saw, Won, Lost, Home, Got}
use Rattle.ea_report.specs.Text.{line}
use Rattle.ea_steps.specs.declared.joined.Joined.TheVariants.{Apart}
use Rattle.ea_sched.specs.declared.wants.Wanted.TheVariants as wanted
use Rattle.ea_steps.specs.Groups.{Group, joined, joined_at, looked_at, searched_at, tried_at}
use Rattle.ea_given.specs.Heard.{heard_of}
use Rattle.ea_sched.specs.Wants.{is_last, is_last_at, row_told, wanted_of}
use Rattle.ea_steps.specs.Printed.{asked_words, code_of, group_line, heard_words, joined_told}
use Rattle.ea_steps.specs.Printed.{rows_words, told_words}
use Rattle.ea_steps.specs.Rows.{answer_words, wanted_words}
use Rattle.ea_steps.specs.Steps.{Step, answer_of}
use Rattle.ea_steps.specs.Text.{group_words, places_text, several_words}
use Rattle.ea_steps.specs.Text.{span_text, step_words}

-- an answer
pub heard-words : (r : Answer) → heard_words (heard_of r) ≡ answer_words r
heard-words Done = refl
heard-words (Head newest) = refl
heard-words Rests = refl
heard-words (Passes None) = refl
heard-words (Passes (Some node)) = refl
heard-words (Saw seen) = refl
heard-words (Won content) = refl
heard-words (Lost present) = refl
heard-words (Home content) = refl
heard-words (Got None) = refl
heard-words (Got (Some spot)) = refl

-- a row on a route
route-words : (me : ℕ) (next : Option Node) (last : Bool) (r : Route Content)
    → asked_words (row_told me next last (wants_on r)) ≡ wanted_words me next (wants_on r)
route-words me next last (route.Looking hand) = refl
route-words me next last (route.Trying hand seen) = refl
route-words me next last (route.Settling x) = refl
route-words me next last (route.Abandoning x) = refl
route-words me next last (route.Sending x) = refl
route-words me next last (route.Clearing x) = refl
route-words me next last (route.Pushing node to) = refl
route-words me next last (route.Linking node to) = refl

begin-words : (me : ℕ) (next : Option Node) (last : Bool)
    → asked_words (row_told me next last (begins next)) ≡ wanted_words me next (begins next)
begin-words me None last = refl
begin-words me (Some node) last = refl

-- a row that is wanted
at-words : (me : ℕ) (next : Option Node) (last : Bool) (at : Stage Content)
    → asked_words (row_told me next last (wants_at next at))
    ≡ wanted_words me next (wants_at next at)
at-words me next last stage.Begin = begin-words me next last
at-words me next last (stage.Routed r why gone) = route-words me next last r
at-words me next last (stage.Collecting number) = refl
at-words me next last (stage.Searching ask at part) = refl
at-words me next last (stage.Fetching ask at part seen) = refl
at-words me next last (stage.Creating ask p) = refl
at-words me next last (stage.Giving given to) = refl
at-words me next last (stage.Taking name tries left) = refl
at-words me next last stage.Ended = refl
at-words me next last stage.Ready = refl

pub wanted-words : (me : ℕ) (a : Actor)
    → asked_words (wanted_of me a) ≡ wanted_words me a.next (wants a)
wanted-words me a = at-words me a.next (is_last_at a.stage) a.stage

-- a step
pub step-words : (s : Step)
    → told_words (wanted_of s.scheduler (s.before.actors s.scheduler)) (heard_of (answer_of s))
    ≡ step_words s
step-words s =
    let a = s.before.actors s.scheduler in
    ap (λ w. w ++ heard_words (heard_of (answer_of s))) (wanted-words s.scheduler a)
    ∙ ap (λ w. wanted_words s.scheduler a.next (wants a) ++ w) (heard-words (answer_of s))

-- which steps one line may tell
looked-joined : (number : ℕ) (r : Answer)
    → joined_told (wanted.Look number true) (heard_of r) ≡ looked_at number r
looked-joined number Done = refl
looked-joined number (Head newest) = refl
looked-joined number Rests = refl
looked-joined number (Passes None) = refl
looked-joined number (Passes (Some node)) = refl
looked-joined number (Saw seen) = refl
looked-joined number (Won content) = refl
looked-joined number (Lost present) = refl
looked-joined number (Home content) = refl
looked-joined number (Got None) = refl
looked-joined number (Got (Some spot)) = refl

tried-joined : (name : ℕ) (r : Answer)
    → joined_told (wanted.TakeTry name) (heard_of r) ≡ tried_at name r
tried-joined name Done = refl
tried-joined name (Head newest) = refl
tried-joined name Rests = refl
tried-joined name (Passes None) = refl
tried-joined name (Passes (Some node)) = refl
tried-joined name (Saw seen) = refl
tried-joined name (Won content) = refl
tried-joined name (Lost present) = refl
tried-joined name (Home content) = refl
tried-joined name (Got None) = refl
tried-joined name (Got (Some spot)) = refl

searched-joined : (number : ℕ) (part : Part) (r : Answer)
    → joined_told (wanted.Look number (is_last part)) (heard_of r) ≡ searched_at part number r
searched-joined number (Own left) r = refl
searched-joined number (Traitors left) r = refl
searched-joined number (Pool left looked) r = looked-joined number r

route-joined : (me : ℕ) (next : Option Node) (r : Route Content) (answer : Answer)
    → joined_told (row_told me next false (wants_on r)) (heard_of answer) ≡ Apart
route-joined me next (route.Looking hand) answer = refl
route-joined me next (route.Trying hand seen) answer = refl
route-joined me next (route.Settling x) answer = refl
route-joined me next (route.Abandoning x) answer = refl
route-joined me next (route.Sending x) answer = refl
route-joined me next (route.Clearing x) answer = refl
route-joined me next (route.Pushing node to) answer = refl
route-joined me next (route.Linking node to) answer = refl

begin-joined : (me : ℕ) (next : Option Node) (answer : Answer)
    → joined_told (row_told me next false (begins next)) (heard_of answer) ≡ Apart
begin-joined me None answer = refl
begin-joined me (Some node) answer = refl

at-joined : (me : ℕ) (next : Option Node) (at : Stage Content) (r : Answer)
    → joined_told (row_told me next (is_last_at at) (wants_at next at)) (heard_of r)
    ≡ joined_at at r
at-joined me next stage.Begin r = begin-joined me next r
at-joined me next (stage.Routed route why gone) r = route-joined me next route r
at-joined me next (stage.Collecting number) r = refl
at-joined me next (stage.Searching ask at part) r = searched-joined at part r
at-joined me next (stage.Fetching ask at part seen) r = refl
at-joined me next (stage.Creating ask p) r = refl
at-joined me next (stage.Giving given to) r = refl
at-joined me next (stage.Taking name tries left) r = tried-joined name r
at-joined me next stage.Ended r = refl
at-joined me next stage.Ready r = refl

pub step-joined : (s : Step)
    → joined_told (wanted_of s.scheduler (s.before.actors s.scheduler)) (heard_of (answer_of s))
    ≡ joined s
step-joined s =
    let a = s.before.actors s.scheduler in
    at-joined s.scheduler a.next a.stage (answer_of s)

-- a group
rows-words : (g : Group) → rows_words (code_of g) ≡ group_words g
rows-words g =
    ap (λ w. if g.first.place == g.last.place then w else several_words w
    (joined_told (code_of g).wanted (code_of g).heard) (joined g.last)) (step-words g.first)
    ∙ ap (λ j. if g.first.place == g.last.place then step_words g.first
    else several_words (step_words g.first) j (joined g.last)) (step-joined g.first)

pub group-line : (g : Group) → group_line (code_of g) ≡ places_text g
group-line g = ap (λ w. line (span_text g.first.place g.last.place)
    (decimal g.first.scheduler ∷ span_text g.first.own g.last.own ∷ w)) (rows-words g)
