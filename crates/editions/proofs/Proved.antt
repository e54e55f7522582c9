-- The statements of Statements, proved.
use Rattle.std.specs.Prelude.{◌≡◌, refl, Bool, not, List, [], map, ◌↔◌, ℕ, ◌≤◌, ◌<◌}
use Rattle.std.proofs.Common.{sym, ap, ap₂, subst, ◌∙◌, true≢false, append-nil, arith}
use Rattle.std.proofs.Math.Bool.{true, false}
use Rattle.std.proofs.Math.Logic.{⊎_elim}
use borrow.Author.Tests.{lt-ltb, le-ltb}
use Rattle.std.proofs.Math.ListN.{length}
use Rattle.std.proofs.lemmas.List.{length-map}
use Rattle.laws.specs.Over.{over}
use Rattle.laws.specs.Test.{lt_or_le, zero≢one}
use Rattle.rules.specs.Admission.{admitted, rejected, admission_of, admission}
use Rattle.rules.specs.Converter.{network_text2, other_edition, convert, answer_text, converter}
use Rattle.rules.specs.Edition2.{is_edition2, read_either}
use Rattle.rules.specs.Form.{Reading, Good, Refused}
use Rattle.rules.specs.Mapper.{and_then}
use Rattle.rules.specs.Network.{Network, member, node_at, stats}
use Rattle.rules.specs.Outcome.{Outcome, outcome, written, refused}
use Rattle.rules.specs.Regroup.{order, place_in, moved_node, reordered, regrouped}
use Rattle.rules.specs.Writing.{network_text}
use Rattle.theorems.specs.Admissible.{net_of, Admissible}
use Rattle.theorems.specs.Admissible2.{read_plain, read_2}
use Rattle.theorems.specs.AdmissionExact.{EitherHolds, listed, listed2, reply_refused}
use Rattle.theorems.proofs.AdmissionExact.{admission_exact}
use Rattle.theorems.specs.Results.{good_same, reading_then}
use Rattle.mapped.specs.TextReadBack.{is_plain}
use Rattle.editions.specs.Statements.{Writable, Together, ReadsBack2, Regroups, RegroupsEach, Converted, Converts, ThereAndBack, SecondTrip, PlainTrip, Answers, is_written, is_refused, is_too_long, Refuses}
use Rattle.editions.specs.Places.{place_same}
use Rattle.editions.specs.OrderKept.{OrderKept, order-kept}
use Rattle.editions.specs.MovedPasses.{Placed, front_placed}
use Rattle.editions.specs.Regrouped.{regrouped_admissible, regrouped_inputs, regrouped_agrees, sorted}
use Rattle.editions.specs.Together.{Grouped, regrouped_together, node_stays, outputs_stay, together-stays}
use Rattle.editions.specs.Between.{grouped_together, together_grouped}
use Rattle.editions.specs.SameStats.{same_stats}
use Rattle.editions.specs.Said2.{Said2, said_2}
use Rattle.editions.specs.PlainText.{plain-only_text}
use Rattle.editions.specs.WrittenEach.{plain_writable, is_2, written-plain, written_2, regrouped_writable}
use Rattle.editions.specs.NewOrder.{Sorted}

-- ---- reads_back_2

admitted_as : (text : List ℕ) (w : Network) → read_either text ≡ Good w → admission text ≡ admitted (stats w)
unfolding admission admission_of
admitted_as text w e = ap admission_of e

pub reads_back_2 : ReadsBack2
reads_back_2 w g t =
    let e = written_2 w g (together_grouped w.nodes t) in
    (e, admitted_as (network_text2 w) w e)

-- ---- regroups

pub regroups : RegroupsEach
unfolding regrouped reordered net_of
regroups w a =
    record {
      to = place_in o;
      admissible = regrouped_admissible w a;
      settings = refl;
      inputs = regrouped_inputs w;
      long = length-map o _ ∙ s.long;
      within = λ i l. placed.within i (s.all i l);
      apart = λ i j l m e. place_same o i j (s.all i l) (s.all j m) e;
      nodes = λ i l. placed.at i (s.all i l);
      outputs = refl;
      together = grouped_together (regrouped w).nodes (regrouped_together w a);
      tables = kept.tables;
      others = kept.others;
      agrees = regrouped_agrees w a;
    }
  where
    o : List ℕ
    o = order w.nodes

    s : Sorted w.nodes (length w.nodes) o
    s = sorted w a

    placed : Placed w.nodes (place_in o) o (map (λ j. moved_node (place_in o) (node_at w.nodes j)) o)
    placed = front_placed (net_of w) w.nodes a.nodes o o [] (append-nil o)

    kept : OrderKept w.nodes
    kept = order-kept (net_of w) w.nodes a.nodes

-- a network whose tables stand together, each with its own number
unmoved : (w : Network) → Admissible w → Grouped w.nodes → Regroups w w
unmoved w a g =
    record {
      to = λ i. i;
      admissible = a;
      settings = refl;
      inputs = refl;
      long = refl;
      within = λ i l. l;
      apart = λ i j l m e. e;
      nodes = λ i l. sym (node_stays (λ i. i) (node_at w.nodes i) (λ j m. refl));
      outputs = sym (outputs_stay (λ i. i) (net_of w) w.nodes [] w.outputs a.outputs (λ j l. refl));
      together = grouped_together w.nodes g;
      tables = λ i j l m e. l;
      others = λ i j l m e. l;
      agrees = λ bits b. refl;
    }

-- ---- converts

convert_is : (text : List ℕ) (w : Network) (b : Bool) → read_either text ≡ Good w → is_edition2 text ≡ b → convert text ≡ Good (other_edition b w)
unfolding convert and_then
convert_is text w b r k = rw (r, k)

same_reply : (text other : List ℕ) (w v : Network) → read_either text ≡ Good w → read_either other ≡ Good v → stats v ≡ stats w → admission other ≡ admission text
same_reply text other w v r q e = admitted_as other v q ∙ ap admitted e ∙ sym (admitted_as text w r)

module _ (text other : List ℕ) (w : Network) (r : read_either text ≡ Good w) where
  to_2 : is_edition2 text ≡ false → network_text2 (regrouped w) ≡ other → Converted text other
  to_2 k e =
      record {
        network = w;
        read = r;
        moved = regrouped w;
        read_back = read_back;
        edition = edition ∙ sym (ap not k);
        same = regroups w g.admissible;
        unmoved = λ q. absurd (true≢false (sym q ∙ k));
        admits = admitted_as text w r;
        recounted = same_reply text other w (regrouped w) r read_back (same_stats w g.admissible);
        back = network_text (regrouped w);
        goes_back = unfold other_edition in (convert_is other (regrouped w) true read_back edition);
      }
    where
      g : Writable w
      g = plain_writable text w (sym (read_plain text k) ∙ r)

      read_back : read_either other ≡ Good (regrouped w)
      read_back = ap read_either (sym e) ∙ written_2 (regrouped w) (regrouped_writable w g) (regrouped_together w g.admissible)

      edition : is_edition2 other ≡ true
      edition = ap is_edition2 (sym e) ∙ is_2 (regrouped w)

  to-plain : is_edition2 text ≡ true → network_text w ≡ other → Converted text other
  to-plain k e =
      record {
        network = w;
        read = r;
        moved = w;
        read_back = read_back;
        edition = edition ∙ sym (ap not k);
        same = unmoved w g.writable.admissible g.together;
        unmoved = λ q. refl;
        admits = admitted_as text w r;
        recounted = same_reply text other w w r read_back refl;
        back = network_text2 (regrouped w);
        goes_back = unfold other_edition in (convert_is other w false read_back edition);
      }
    where
      g : Said2 text w
      g = said_2 text w (sym (read_2 text k) ∙ r)

      read_back : read_either other ≡ Good w
      read_back = ap read_either (sym e) ∙ written-plain w g.writable

      edition : is_edition2 other ≡ false
      edition = ap is_edition2 (sym e) ∙ is_plain w

-- what is converted was read
converted_from : (text other : List ℕ) → convert text ≡ Good other → (w : Network) × (read_either text ≡ Good w) × (other_edition (is_edition2 text) w ≡ other)
unfolding convert
converted_from text other e = let r = reading_then (read_either text) (λ w. Good (other_edition (is_edition2 text) w)) other e in (r.0, r.1, good_same _ other r.2)

pub converts : Converts
unfolding other_edition
converts text other e = by (is_edition2 text) refl (converted_from text other e)
  where
    by : (b : Bool) → is_edition2 text ≡ b → (w : Network) × (read_either text ≡ Good w) × (other_edition (is_edition2 text) w ≡ other) → Converted text other
    by true k h = to-plain text other h.0 h.1 k (ap (λ b. other_edition b h.0) (sym k) ∙ h.2)
    by false k h = to_2 text other h.0 h.1 k (ap (λ b. other_edition b h.0) (sym k) ∙ h.2)

-- ---- there_and_back, second_trip, plain_trip

pub there_and_back : ThereAndBack
unfolding other_edition
there_and_back text other k e =
    let h = converted_from text other e in
    let s = said_2 text h.0 (sym (read_2 text k) ∙ h.1) in
    let q : network_text h.0 ≡ other = ap (λ b. other_edition b h.0) (sym k) ∙ h.2 in
    ap convert (sym q) ∙ convert_is (network_text h.0) h.0 false (written-plain h.0 s.writable) (is_plain h.0)
    ∙ ap {B = Reading (List ℕ)} (λ w. Good (network_text2 w)) (together-stays h.0 s.writable.admissible s.together) ∙ ap {B = Reading (List ℕ)} Good s.only_text

pub second_trip : SecondTrip
second_trip text second back k e f = there_and_back second back ((converts text second e).edition ∙ ap not k) f

pub plain_trip : PlainTrip
unfolding other_edition
plain_trip text second back w k r e f = (
  λ q. subst (λ (v : Network). Together v.nodes)
      (good_same (regrouped w) w (sym (written-plain (regrouped w) (regrouped_writable w g)) ∙ ap read_either (to_back ∙ q ∙ sym only) ∙ written-plain w g))
      (grouped_together (regrouped w).nodes (regrouped_together w g.admissible)),
  λ t. sym to_back ∙ ap network_text (together-stays w g.admissible (together_grouped w.nodes t)) ∙ only,
)
  where
    g : Writable w
    g = plain_writable text w (sym (read_plain text k) ∙ r)

    only : network_text w ≡ text
    only = plain-only_text text w (sym (read_plain text k) ∙ r)

    to-second : network_text2 (regrouped w) ≡ second
    to-second = good_same (network_text2 (regrouped w)) second (sym (convert_is text w false r k) ∙ e)

    to_back : network_text (regrouped w) ≡ back
    to_back =
        good_same (network_text (regrouped w)) back
        (sym (convert_is second (regrouped w) true (ap read_either (sym to-second) ∙ written_2 (regrouped w) (regrouped_writable w g) (regrouped_together w g.admissible)) (ap is_edition2 (sym to-second) ∙ is_2 (regrouped w))) ∙ f)

-- ---- refuses

then_refused : {A B : Type 0} (r : Reading A) (f : A → B) (k i : ℕ) → and_then r (λ a. Good (f a)) ≡ Refused k i → r ≡ Refused k i
unfolding and_then
then_refused (Good a) f k i e = absurd (zero≢one (cc))
then_refused {A} (Refused j h) f k i e = ap₂ {C = Reading A} Refused (cc) (cc)

refused_with : (text : List ℕ) (k i : ℕ) → (convert text ≡ Refused k i) ↔ (admission text ≡ rejected k i)
unfolding convert admission
refused_with text k i = (
  λ e. (reply_refused (read_either text) k i).1 (then_refused (read_either text) (other_edition (is_edition2 text)) k i e),
  λ e. rw ((reply_refused (read_either text) k i).0 e) (unfold and_then in refl),
)

-- admission's numbers are neither 0 nor 11
listed-number : (text : List ℕ) (k i : ℕ) → admission text ≡ rejected k i → (k ≡ 0 → ⊥) × (k ≡ 11 → ⊥)
unfolding listed listed2 member
listed-number text k i e = by (is_edition2 text) refl
  where
    h : EitherHolds text k i
    h = (((admission_exact text).refused k i).0 e).holds

    by : (b : Bool) → is_edition2 text ≡ b → (k ≡ 0 → ⊥) × (k ≡ 11 → ⊥)
    by true q = let m = (admission_exact text).edition_2_listed q k i h in (λ z. true≢false (sym (rw z at m)), λ z. true≢false (sym (rw z at m)))
    by false q = let m = (admission_exact text).plain-listed q k i h in (λ z. true≢false (sym (rw z at m)), λ z. true≢false (sym (rw z at m)))

module _ (text buffer : List ℕ) where
  fits : (other : List ℕ) → convert text ≡ Good other → length other ≤ length buffer → converter text buffer ≡ outcome (written (length other)) (over other buffer)
  unfolding converter answer_text
  fits other e l = rw (e, le-ltb (length buffer) (length other) l)

  too_long_lem : (other : List ℕ) → convert text ≡ Good other → length buffer < length other → converter text buffer ≡ outcome (refused 11 0) buffer
  unfolding converter answer_text
  too_long_lem other e l = rw (e, lt-ltb (length buffer) (length other) l)

  answers_of : (r : Reading (List ℕ)) → convert text ≡ r → Answers text buffer
  unfolding converter answer_text
  answers_of (Refused k i) e = is_refused k i ((refused_with text k i).0 e) (rw e)
  answers_of (Good other) e =
      ⊎_elim (λ (l : length buffer < length other). is_too_long other e l (too_long_lem other e l)) (λ (l : length other ≤ length buffer). is_written other e l (fits other e l))
      (lt_or_le (length buffer) (length other))

  abbrev number : Outcome → ℕ
  number o = o.answer.number

  zero-fits : (converter text buffer).answer.number ≡ 0 → (other : List ℕ) × (convert text ≡ Good other) × (length other ≤ length buffer)
  zero-fits e = by (answers_of (convert text) refl)
    where
      by : Answers text buffer → (other : List ℕ) × (convert text ≡ Good other) × (length other ≤ length buffer)
      by (is_written other f l q) = (other, f, l)
      by (is_refused k i a q) = absurd ((listed-number text k i a).0 (sym (ap number q) ∙ e))
      by (is_too_long other f l q) = absurd (let z = sym (ap number q) ∙ e in omega arith)

  eleven_long : (converter text buffer).answer.number ≡ 11 → (other : List ℕ) × (convert text ≡ Good other) × (length buffer < length other)
  eleven_long e = by (answers_of (convert text) refl)
    where
      by : Answers text buffer → (other : List ℕ) × (convert text ≡ Good other) × (length buffer < length other)
      by (is_written other f l q) = absurd (let z = sym (ap number q) ∙ e in omega arith)
      by (is_refused k i a q) = absurd ((listed-number text k i a).1 (sym (ap number q) ∙ e))
      by (is_too_long other f l q) = (other, f, l)

  pub refuses : Refuses text buffer
  refuses =
      record {
        one_of = answers_of (convert text) refl;
        as_admission = refused_with text;
        zero = (zero-fits, λ z. ap number (fits z.0 z.1 z.2));
        eleven = (eleven_long, λ z. ap number (too_long_lem z.0 z.1 z.2));
      }
