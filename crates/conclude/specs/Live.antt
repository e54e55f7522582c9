-- The outputs' nodes as marks, and what is kept.
use Rattle.std.specs.Prelude.{◌≡◌, Bool, false, List, [], ◌∷◌, ◌++◌, map, ℕ, suc, zero, ◌+◌, ◌≤◌, ◌<◌, length, get_or, take, Option}
use Rattle.std.proofs.Common.{ap, subst, ◌∙◌, append_assoc, append-nil, not-suc-le-zero, add-one, arith}
use Rattle.std.proofs.lemmas.List.{length-map, get_or-map, take_all}
use Rattle.forms.specs.declared.Output as O
use Rattle.forms.specs.Forms.{output_of}
use Rattle.rules.specs.Circuit.{Output}
use Rattle.rules.specs.Network.{LutNode, member}
use Rattle.rules.specs.Store.{wire_needs, output_needs, wanted_below, live}
use Rattle.prune.specs.Prune.{Marks, Marking, Numbers, adding, adding_none, adding_both}
use Rattle.writer.specs.Kept.{Numbered}
use Rattle.gates.specs.Wired.{wire_more}
use Rattle.outputs.specs.Outputs.{AllIn}

-- ---- laws: all outputs

needs_next : (os : List Output) (i : ℕ) (d : Output) → i < length os → output_needs (take (suc i) os) ≡ output_needs (take i os) ++ wire_needs (get_or os i d).wire
unfolding output_needs
needs_next [] i d h = absurd (not-suc-le-zero h)
needs_next (o ∷ os) zero d h = append-nil (wire_needs o.wire)
needs_next (o ∷ os) (suc i) d h = rw append_assoc (ap {B = List ℕ} (λ l. wire_needs o.wire ++ l) (needs_next os i d (omega arith)))

-- The first i outputs are marked.
pub record Marked (os : List O.Output) (i : ℕ) (before marks : List Bool) : Type 0 where
  pub marking : Marking (adding (output_needs (take i (map output_of os)))) before marks

pub marked_none : (os : List O.Output) (marks : List Bool) → Marked os 0 marks marks
unfolding output_needs
marked_none os marks = record { marking = adding_none marks }

module _ (os : List O.Output) (i : ℕ) {before marks : List Bool} (m : Marked os i before marks) where
  pub marked_next : (d : O.Output) {after : List Bool} → i < length os → Marking (adding (wire_needs (get_or os i d).wire)) marks after → Marked os (i + 1) before after
  marked_next d h w =
      let e : output_needs (take (suc i) (map output_of os)) ≡ output_needs (take i (map output_of os)) ++ wire_needs (get_or os i d).wire =
      needs_next (map output_of os) i (output_of d) (simp length-map h) ∙ ap (λ (o : Output). output_needs (take i (map output_of os)) ++ wire_needs o.wire) (get_or-map output_of os i d (output_of d) h) in
      record { marking = rw (add-one, e) (adding_both _ _ m.marking w) }

  pub marked_all : length os ≤ i → Marking (adding (output_needs (map output_of os))) before marks
  marked_all h = rw (take_all i (map output_of os) (simp length-map h)) at m.marking

pub wires_more : (n more : ℕ) (os : List Output) → n ≤ more → AllIn n os → AllIn more os
wires_more n more os h a = λ k d l. wire_more n more (get_or os k d).wire h (a k d l)

-- ---- laws: what is kept

marks_nothing : (marks : List Bool) → ((i : ℕ) → i < 672 → get_or marks i false ≡ false) → Marks [] marks
unfolding member
marks_nothing marks h = record { at = h }

pub keeps : (nodes : List LutNode) (outputs : List Output) (before marks : List Bool) (numbers : List (Option ℕ)) → ((i : ℕ) → i < 672 → get_or before i false ≡ false)
    → Marking (adding (output_needs outputs)) before marks → Numbers (wanted_below (length nodes) nodes) (length nodes) marks numbers
    → Numbered (live nodes outputs) numbers (length nodes)
unfolding live adding
keeps nodes outputs before marks numbers none m n = record { at = n.at (output_needs outputs) marked }
  where
    marked : Marks (output_needs outputs) marks
    marked = subst (λ l. Marks l marks) (append-nil (output_needs outputs)) (m.marks [] (marks_nothing before none))
