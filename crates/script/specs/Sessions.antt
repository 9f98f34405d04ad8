-- What a line makes of what a session holds.
use Rattle.std.specs.Prelude.{◌≡◌, ℕ, ◌≤◌, ◌⊎◌, List, [], ◌∷◌, ◌++◌, Some, None, Ok, Err, Option, Result}
use Rattle.model.specs.Orders.{First}
use Rattle.model.specs.Card as cards
use Rattle.model.specs.Stack.{stacked}
use Rattle.layout.specs.declared.fault.CardFault.{CardFault}
use Rattle.layout.specs.Faults.{card_turn}
use Rattle.layout.specs.Wrong.{CardWrong}
use Rattle.reduction.specs.declared.fault.ReductionFault.{ReductionFault}
use Rattle.reduction.specs.Faults.{reduction_turn}
use Rattle.stack.specs.declared.layer.Layer.{Layer}
use Rattle.stack.specs.declared.layer.Layer.TheVariants.{Keep, Join}
use Rattle.stack.specs.Layers.{layerings, LayerWrong}
use Rattle.command.specs.declared.kinds.LineFault.{LineFault}
use Rattle.command.specs.Words.{Words, BeforeComment}
use Rattle.command.specs.Commands.{Saying, says, card, ring, leave_out, join, task, follow, image, frame, code, step}
use Rattle.script.specs.declared.trouble.Trouble.{Trouble}
use Rattle.script.specs.declared.trouble.Trouble.TheVariants.{Line, NoTask, Declined, Machine}
use Rattle.script.specs.Held.{Held, nothing, pile, words, places, foot_task}

-- a layer goes on top if it is accepted
abbrev pub Tops : Held → Layer → Held → Type 0
Tops nothing l h' = h' ≡ nothing
Tops (pile f ls) l h' =
    (((e : ReductionFault) → LayerWrong (stacked (layerings ls) (foot_task f)) l e → ⊥) × (h' ≡ pile f (ls ++ (l ∷ []))))
    ⊎ ((e : ReductionFault) × First reduction_turn (LayerWrong (stacked (layerings ls) (foot_task f)) l) e × (h' ≡ pile f ls))

-- a card or a ring that is accepted is the task from then on, with no layer over it
abbrev pub Becomes : Held → Saying → Held → Type 0
Becomes h (card ws) h' = (cards.IsCard ws × (h' ≡ pile (words ws) [])) ⊎ ((e : CardFault) × First card_turn (CardWrong ws) e × (h' ≡ h))
Becomes h (ring n) h' = ((1 ≤ n) × (n ≤ 32) × (h' ≡ pile (places n) [])) ⊎ (((1 ≤ n) × (n ≤ 32) → ⊥) × (h' ≡ h))
Becomes h (leave_out mask) h' = Tops h (Keep (record { mask = mask })) h'
Becomes h (join v a b) h' = Tops h (Join (record { variable = v; low = a; high = b })) h'
Becomes h task h' = h' ≡ h
Becomes h (follow os) h' = h' ≡ h
Becomes h (image v x) h' = h' ≡ h
Becomes h (frame mask) h' = h' ≡ h
Becomes h (code mask xs) h' = h' ≡ h
Becomes h (step mask c o) h' = h' ≡ h

-- what a line makes of it that says this
abbrev pub After : Held → Option (Result Saying LineFault) → Held → Type 0
After h (Some (Ok s)) h' = Becomes h s h'
After h (Some (Err e)) h' = h' ≡ h
After h None h' = h' ≡ h

-- what the text of a line makes of it, by the words before its comment
abbrev pub Does : List ℕ → Held → Held → Type 0
Does text h h' = (before : List ℕ) × (ws : List (List ℕ)) × BeforeComment text before × Words before ws × After h (says ws) h'

-- P holds after a line that was carried out or refused (no command, no task, declined); where input, output or memory failed, P or Q.
abbrev pub CarriedOut : Result (Unit {0}) Trouble → Type 0 → Type 0 → Type 0
CarriedOut (Ok _) P Q = P
CarriedOut (Err (Line e)) P Q = P
CarriedOut (Err NoTask) P Q = P
CarriedOut (Err (Declined r)) P Q = P
CarriedOut (Err (Machine e)) P Q = P ⊎ Q
