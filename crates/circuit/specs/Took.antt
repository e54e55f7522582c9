-- A line taken: the first condition that it meets, or the lines so far with it.
use Rattle.std.specs.Prelude.{◌≡◌, refl, Bool, true, false, ◌||◌, List, [], ◌∷◌, map, ℕ, ◌≤◌, leb, IsTrue, ◌↔◌}
use Rattle.std.specs.List.{Any, list_any}
use Rattle.std.proofs.Common.{sym, ap, ◌∙◌, true≢false, ⊎_elim, le-leb}
use Rattle.std.proofs.Math.Option.{Option, none, some, some-injective, none-ne-some}
use Rattle.laws.specs.Test.{decide}
use Rattle.rules.specs.Circuit.{Name, given_names}
use Rattle.std.proofs.lemmas.List.{length-map}
use Rattle.std.proofs.lemmas.List.Folds.{Any-from_list_any, list_any-from_Any}
use Rattle.rules.specs.CircuitText.{CircuitLine, Prefix, listed, same_name, node_count, conditions, with_line}
use Rattle.rules.specs.Form.{Condition, ◌when◌}
use Rattle.theorems.specs.Names.{name_self, name_is}
use Rattle.theorems.specs.Pieces.{from_length}
use Rattle.text.specs.Judged.{lowest}
use Rattle.forms.specs.declared.Input.{Input}
use Rattle.circuit_text.specs.Brief.{Brief, brief_conditions, brief_conditions_lem, told, brief_told}
use Rattle.circuit_text.specs.LineRead.{kept}
use Rattle.forms.specs.Forms.{given_of}

-- Condition 1 is that a line is no form.
abbrev pub line_number : Prefix → Option CircuitLine → ℕ
line_number p none = 1
line_number p (some l) = lowest (conditions p l)

abbrev pub with_form : ℕ → Prefix → Option CircuitLine → Prefix
with_form i p none = p
with_form i p (some l) = with_line i p l

-- ---- What the adding of a line goes by.

-- m of a kind are as many as there may be
pub full : (n m : ℕ) (ks : List Condition) → m ≤ n → lowest ((3 when leb m n) ∷ ks) ≡ 3
unfolding lowest
full n m ks h = rw (le-leb m n h)

pub ruleset counts = (length-map, from_length, full)

-- ---- An input of this name is there.

module _ (n : Name) where
  named : Input → Bool
  named i = same_name n i.name.now

  listed_is : (is : List Input) → listed n (given_names (map given_of is)) ≡ list_any named is
  unfolding listed given_names named
  listed_is [] = refl
  listed_is (i ∷ is) = ap (λ b. same_name n i.name.now || b) (listed_is is)

  pub any_listed : (is : List Input) (b : Bool) → (IsTrue b ↔ Any (λ (i : Input). n ≡ i.name.now) is) → b ≡ listed n (given_names (map given_of is))
  unfolding named
  any_listed is true h =
      let a = h.0 refl in
      let e : same_name n a.1.name.now ≡ true = rw (← a.4) (name_self n) in
      sym (listed_is is ∙ list_any-from_Any named is (a.0, a.1, a.2, a.3, e))
  any_listed is false h =
      ⊎_elim
      (λ e. let a = Any-from_list_any named is e in absurd (true≢false (sym (h.1 (a.0, a.1, a.2, a.3, name_is n _ a.4)))))
      (λ e. sym (listed_is is ∙ e))
      (decide (list_any named is))

-- ---- A line as it is kept says what the form says.

module _ (p : Prefix) (few : node_count p ≤ 65536) where
  pub no_form : (o : Option CircuitLine) → none ≡ kept (node_count p) o → 1 ≡ line_number p o
  unfolding kept
  no_form none e = refl
  no_form (some l) e = absurd (none-ne-some _ e)

  pub line_met : (b : Brief) (o : Option CircuitLine) → some b ≡ kept (node_count p) o → lowest (brief_conditions p b) ≡ line_number p o
  unfolding kept
  line_met b none e = absurd (none-ne-some _ (sym e))
  line_met b (some l) e = ap (λ k. lowest (brief_conditions p k)) (some-injective _ _ e) ∙ ap lowest (brief_conditions_lem p l few)

  pub line_added : (i : ℕ) (b : Brief) (o : Option CircuitLine) → some b ≡ kept (node_count p) o → lowest (brief_conditions p b) ≡ 0
      → with_line i p (told b) ≡ with_form i p o
  unfolding kept
  line_added i b none e h = absurd (none-ne-some _ (sym e))
  line_added i b (some l) e h = ap (λ k. with_line i p (told k)) (some-injective _ _ e) ∙ ap (with_line i p) (brief_told p l few (sym (line_met b (some l) e) ∙ h))
