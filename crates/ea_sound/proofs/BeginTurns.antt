-- The begin of an operation leaves the operations left, the log, the settings and the held names
-- alone.
use Rattle.std.proofs.Common.{◌≡◌, ◌≢◌, ℕ, List, [], ◌∷◌, refl, ◌∙◌}
use Rattle.std.specs.Prelude.{Option, Some, None}
use Rattle.ea_model.specs.Content.{Content}
use Rattle.ea_machine.specs.declared.nodes.Node.{Node}
use Rattle.ea_machine.specs.declared.nodes.Node.TheVariants.{Block, Carrier}
use Rattle.ea_machine.specs.declared.stages.Stage.{Stage}
use Rattle.ea_machine.specs.declared.stages.Stage.TheVariants.{Begin, Routed, Collecting, Searching}
use Rattle.ea_machine.specs.declared.stages.Stage.TheVariants.{Fetching, Creating, Giving, Taking}
use Rattle.ea_machine.specs.declared.stages.Stage.TheVariants.{Ended, Ready}
use Rattle.ea_machine.specs.declared.stages.Route.{Route}
use Rattle.ea_machine.specs.Actor.{Actor}
use Rattle.ea_machine.specs.declared.tasks.Why.TheVariants.{Walk, For}
use Rattle.ea_machine.specs.declared.tasks.Gone.{Gone}
use Rattle.ea_machine.specs.Machine.{after_row}
use Rattle.ea_machine.specs.Releases.{route_of, turned}
use Rattle.ea_machine.specs.Rows.{Answer, Done, Head, Rests, Passes, Saw, Won, Lost, Home, Got}
use Rattle.ea_machine.specs.Setup.{Setup}
use Rattle.ea_machine.specs.Tasks.{carried}
use Rattle.ea_machine.specs.Walks.{after_route, begun, with_passed, worked_off}
use Rattle.ea_sound.proofs.ShortRoutes.{Keeps, keeps-on, keeps-same, route-keeps, route-short}
use Rattle.ea_sound.proofs.ShortRoutes.{turned-keeps, turned-short}

-- where the walk of a begin may be, and after it
abbrev pub IsInBegin : Stage Content → Type 0
IsInBegin Begin = Unit {0}
IsInBegin (Routed r Walk g) = Unit {0}
IsInBegin (Routed r (For task) g) = ⊥
IsInBegin (Collecting c) = Unit {0}
IsInBegin (Searching ask at part) = ⊥
IsInBegin (Fetching ask at part seen) = ⊥
IsInBegin (Creating ask p) = ⊥
IsInBegin (Giving h to) = ⊥
IsInBegin (Taking n tries left) = ⊥
IsInBegin Ended = Unit {0}
IsInBegin Ready = Unit {0}

abbrev pub Walks : Actor → Actor → Type 0
Walks a b = Keeps a b × IsInBegin b.stage × (b.held ≡ a.held)

-- b has what a walk leaves alone of a
abbrev KeepsHeld : Actor → Actor → Type 0
KeepsHeld a b = Keeps a b × (b.held ≡ a.held)

held-on : (a b c : Actor) → Keeps b c → c.held ≡ b.held → KeepsHeld a b → KeepsHeld a c
held-on a b c k held was = (keeps-on a b c k was.0, held ∙ was.1)

module _ (e : Setup) (me : ℕ) (a : Actor) where
  carried-walks : (over : Gone → Actor → Actor) (r : Option (Route Content)) (g : Gone) (b : Actor)
      → KeepsHeld a b → ((h : Gone) (c : Actor) → KeepsHeld a c → Walks a (over h c))
      → Walks a (carried Walk over (record { actor = b; route = r; gone = g }))
  carried-walks over None g b k f = f g b k
  carried-walks over (Some r) g b k f = (k.0, tt, k.1)

  worked-walks : (ns : List Node) (b : Actor) → KeepsHeld a b → Walks a (worked_off e me ns b)
  worked-walks [] b k = (k.0, tt, k.1)
  worked-walks (Carrier c ∷ ns) b k = (k.0, tt, k.1)
  worked-walks (Block n p ∷ ns) b k =
      let t = route_of e me (record { name = n; spot = p }) (record b { passed = ns }) in
      carried-walks (λ gone d. worked_off e me ns d) t.route t.gone t.actor
      (held-on a b t.actor
      (route-keeps e me (record { name = n; spot = p }) (record b { passed = ns }))
      (route-short e me (record { name = n; spot = p }) (record b { passed = ns })).1.5 k)
      (λ h d l. worked-walks ns d l)

  begun-walks : (r : Answer) → Walks a (begun e me a r)
  begun-walks (Head None) = (keeps-same a, tt, refl)
  begun-walks (Head (Some n)) = (keeps-same a, tt, refl)
  begun-walks Rests = (keeps-same a, tt, refl)
  begun-walks (Passes None) =
      worked-walks (with_passed a.next a.passed) (record a { next = None })
      (keeps-same a, refl)
  begun-walks (Passes (Some n)) = (keeps-same a, tt, refl)
  begun-walks Done = (keeps-same a, tt, refl)
  begun-walks (Saw v) = (keeps-same a, tt, refl)
  begun-walks (Won x) = (keeps-same a, tt, refl)
  begun-walks (Lost v) = (keeps-same a, tt, refl)
  begun-walks (Home x) = (keeps-same a, tt, refl)
  begun-walks (Got p) = (keeps-same a, tt, refl)

  -- a row of the begin leaves a stage of the begin, or the begin is over
  pub walks : (st : Stage Content) (r : Answer) → IsInBegin st → st ≢ Ended → st ≢ Ready
      → Walks a (after_row e me a r st)
  walks Begin r w ne nr = begun-walks r
  walks (Routed z Walk g) r w ne nr =
      let t = turned e me z g a r in
      carried-walks (after_route e me Walk) t.route t.gone t.actor
      (turned-keeps e me z g a r, (turned-short e me z g a r).1.5)
      (λ h d l. worked-walks d.passed d l)
  walks (Collecting c) r w ne nr = worked-walks a.passed _ ((refl, refl, refl), refl)
  walks Ended r w ne nr = absurd (ne refl)
  walks Ready r w ne nr = absurd (nr refl)
  walks (Routed z (For task) g) r w ne nr = absurd w
  walks (Searching ask at part) r w ne nr = absurd w
  walks (Fetching ask at part seen) r w ne nr = absurd w
  walks (Creating ask p) r w ne nr = absurd w
  walks (Giving h to) r w ne nr = absurd w
  walks (Taking n tries left) r w ne nr = absurd w
