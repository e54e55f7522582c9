-- The boots of a store, and those that a round takes, one by one.
use Rattle.std.specs.Prelude.{◌≡◌, refl, Bool, true, false, List, [], ◌∷◌, ◌++◌, ℕ, ◌+◌, ◌<◌, ◌≤◌, ℤ, length, get_or, take, All}
use Rattle.std.proofs.Common.{sym, ap, subst, ◌∙◌, add-one, arith, append-nil, length-append, length-take, take_all, take-suc}
use Rattle.std.proofs.lemmas.List.{take-append-le}
use Rattle.std.proofs.Math.Seq.{take-nil}
use Rattle.laws.specs.Select.{select, select_le, select-append}
use Rattle.laws.specs.Tabulate.{tabulate, numbers, numbers_snoc, tabulate-length}
use Rattle.laws.specs.Test.{if◌then◌otherwise◌}
use Rattle.rules.specs.Circuit.{Given}
use Rattle.rules.specs.Network.{Term, LutNode, Input, Linear, Bootstrap, is_bootstrap, member, node_at}
use Rattle.rules.specs.Workers.{is_boot, boots}
use Rattle.theorems.specs.BootDepths.{boot_within, member_boot}
use Rattle.theorems.specs.Members.{member-at, All-from_members}
use Rattle.theorems.specs.WorkerTrials.{few_boots}
use Rattle.nodes.specs.declared.store.Store.{Store}
use Rattle.nodes.specs.Store.{store_of, store_few, store_ordered}

select_one : (f : ℕ → Bool) (x : ℕ) (b : Bool) → f x ≡ b → select f (x ∷ []) ≡ (if b then x ∷ [] otherwise [])
unfolding select
select_one f x b e = rw e refl

-- ---- laws: the boots among the first nodes

module _ (nodes : List LutNode) where
  -- of those below i
  unfoldable pub boots_to : ℕ → List ℕ
  boots_to i = select (is_boot nodes) (numbers i)

  pub boots_none : [] ≡ boots_to 0
  unfolding boots_to select tabulate
  boots_none = refl

  boots_next : (i : ℕ) (b : Bool) → is_boot nodes i ≡ b → boots_to (i + 1) ≡ boots_to i ++ (if b then i ∷ [] otherwise [])
  unfolding boots_to
  boots_next i b e =
      rw (add-one, numbers_snoc i, select-append (is_boot nodes) (numbers i) (i ∷ [])) (ap (λ l. select (is_boot nodes) (numbers i) ++ l) (select_one (is_boot nodes) i b e))

  pub boots_more : (i j : ℕ) (table : List ℕ) → Bootstrap j table ≡ node_at nodes i → boots_to i ++ (i ∷ []) ≡ boots_to (i + 1)
  unfolding is_boot is_bootstrap
  boots_more i j table e = sym (boots_next i true (rw (← e) refl))

  passed : (i : ℕ) → is_boot nodes i ≡ false → boots_to i ≡ boots_to (i + 1)
  passed i e = sym (boots_next i false e ∙ append-nil (boots_to i))

  pub boots_input : (i : ℕ) (g : Given) → Input g ≡ node_at nodes i → boots_to i ≡ boots_to (i + 1)
  unfolding is_boot is_bootstrap
  boots_input i g e = passed i (rw (← e) refl)

  pub boots_sum : (i : ℕ) (c : ℤ) (ts : List Term) → Linear c ts ≡ node_at nodes i → boots_to i ≡ boots_to (i + 1)
  unfolding is_boot is_bootstrap
  boots_sum i c ts e = passed i (rw (← e) refl)

  pub boots_few : (i : ℕ) → length (boots_to i) ≤ i
  unfolding boots_to
  boots_few i = omega (arith, select_le (is_boot nodes) (numbers i), tabulate-length i (λ (k : ℕ). k))

  pub boots_all : (i : ℕ) → i ≡ length nodes → boots_to i ≡ boots nodes
  unfolding boots_to boots
  boots_all i e = ap (λ n. select (is_boot nodes) (numbers n)) e

pub ruleset listing = (boots_none, boots_more, boots_input, boots_sum, boots_few, boots_all)

-- ---- laws: those that are taken, boot by boot

module _ (f : ℕ → Bool) (W : ℕ) (l : List ℕ) where
  -- of the first k
  unfoldable pub taken_to : ℕ → List ℕ
  taken_to k = take W (select f (take k l))

  pub taken_none : [] ≡ taken_to 0
  unfolding taken_to select
  taken_none = sym (take-nil W)

  taken_next : (k d : ℕ) (b : Bool) → k < length l → f (get_or l k d) ≡ b → taken_to (k + 1) ≡ take W (select f (take k l) ++ (if b then get_or l k d ∷ [] otherwise []))
  unfolding taken_to
  taken_next k d b h e =
      ap (take W) (rw (add-one, take-suc l k d h, select-append f (take k l) (get_or l k d ∷ [])) (ap (λ r. select f (take k l) ++ r) (select_one f (get_or l k d) b e)))

  -- a turn
  module _ (k : ℕ) (t : List ℕ) (now : t ≡ taken_to k) (h : k < length l) where
    pub taken_more : (d : ℕ) → length t < W → f (get_or l k d) ≡ true → t ++ (get_or l k d ∷ []) ≡ taken_to (k + 1)
    unfolding taken_to
    taken_more d free e =
        sym
        (taken_next k d true h e
        ∙ take_all W (ready ++ (get_or l k d ∷ [])) (omega (arith, few, length-append ready (get_or l k d ∷ [])))
        ∙ ap (λ s. s ++ (get_or l k d ∷ [])) (sym (now ∙ take_all W ready (omega (arith, few)))))
      where
        ready : List ℕ
        ready = select f (take k l)

        few : length ready < W
        few = omega (arith, length-take W (select f (take k l)), free, ap length now)

    pub taken_passed : (d : ℕ) → f (get_or l k d) ≡ false → t ≡ taken_to (k + 1)
    unfolding taken_to
    taken_passed d e = now ∙ sym (taken_next k d false h e ∙ ap (take W) (append-nil (select f (take k l))))

    pub taken_full : W ≤ length t → t ≡ taken_to (k + 1)
    unfolding taken_to
    taken_full full =
        now
        ∙ sym
        (taken_next k 0 (f (get_or l k 0)) h refl
        ∙ take-append-le W (select f (take k l)) _ (omega (arith, length-take W (select f (take k l)), ap length now)))

  pub taken_all : (k : ℕ) → length l ≤ k → taken_to k ≡ take W (select f l)
  unfolding taken_to
  taken_all k h = ap (λ s. take W (select f s)) (take_all k l h)

pub ruleset taking = (taken_none, taken_more, taken_passed, taken_full, taken_all)

-- ---- laws: the boots of a store

module _ (s : Store) where
  pub boots_within : All (λ b. b < 672) (boots (store_of s))
  boots_within = All-from_members (λ b. b < 672) (boots (store_of s)) (λ b m. omega (arith, boot_within (store_of s) b (member_boot (store_of s) b m), store_few s))

  pub boots_fit : length (boots (store_of s)) ≤ 671
  boots_fit = few_boots (store_of s) (store_ordered s) (store_few s)

  pub listed_within : (bs : List ℕ) → bs ≡ boots (store_of s) → (k : ℕ) → k < length bs → get_or bs k 0 < length (store_of s)
  listed_within bs e k h = boot_within (store_of s) (get_or bs k 0) (member_boot (store_of s) (get_or bs k 0) (subst (λ l. member (get_or bs k 0) l ≡ true) e (member-at bs k h)))

pub ruleset fitting = (boots_within, boots_fit)
