-- The pieces stand within a line, and the lines that both texts have are whole lines.
use Rattle.std.specs.Prelude.{refl, Bool, true, false, ◌&&◌, [], ◌∷◌, leb}
use Rattle.std.proofs.Math.Option.{none}
use Rattle.laws.specs.Test.{if◌then◌otherwise◌}
use Rattle.rules.specs.declared.Limit.TheVariants.{AtMost}
use Rattle.rules.specs.Form.{give, name, is_name_byte, is_name, number, is_digit, is_number, bits, is_bit_byte, is_bits, wire, norm, up_to4096, from2_to64, weight, in_line, out_line}
use Rattle.text.specs.FirstLine.{Inner, Closes, no_newline, inner_give, inner_or, inner_then, inner_word, inner_run, closes_then, closes_give, closes_word}

pub inner_name : Inner name
unfolding name is_name_byte
inner_name = inner_run is_name_byte refl is_name

pub inner_number : Inner number
unfolding number is_digit
inner_number = inner_then (inner_run is_digit refl is_number) (λ w. inner_give _)

pub inner_bits : Inner bits
unfolding bits is_bit_byte
inner_bits = inner_then (inner_run is_bit_byte refl is_bits) (λ w. inner_give _)

pub inner_wire : Inner wire
unfolding wire no_newline
inner_wire =
    inner_or (inner_then (inner_word _ refl) (λ _. inner_then inner_number (λ i. inner_then (inner_word _ refl) (λ _. inner_give _))))
    (inner_or (inner_then (inner_word _ refl) (λ _. inner_give _)) (inner_then (inner_word _ refl) (λ _. inner_give _)))

-- a value if a test holds, and nothing else
inner_if : {A : Type 0} (t : Bool) (a : A) → Inner (if t then give a otherwise (λ s. none))
inner_if true a = inner_give a
inner_if false a = record { inside = λ l. refl }

pub inner_norm : Inner norm
unfolding norm up_to4096 no_newline
inner_norm = inner_or (inner_then (inner_word _ refl) (λ _. inner_give _)) (inner_then inner_number (λ n. inner_if (leb n 4096) (AtMost n)))

inner_weight : Inner weight
unfolding weight from2_to64 no_newline
inner_weight = inner_or (inner_then (inner_word _ refl) (λ _. inner_then inner_number (λ n. inner_if (leb 2 n && leb n 64) n))) (inner_give 1)

pub closes_in : Closes in_line
unfolding in_line no_newline
closes_in =
    closes_then (inner_word _ refl) (λ _. closes_then inner_name (λ n. closes_then inner_weight (λ w.
    closes_give (λ _. record { name = n; weight = w }) (closes_word (41 ∷ []) refl))))

pub closes_out : Closes out_line
unfolding out_line no_newline
closes_out =
    closes_then (inner_word _ refl) (λ _. closes_then inner_name (λ n. closes_then (inner_word _ refl) (λ _. closes_then inner_wire (λ w.
    closes_give (λ _. record { name = n; wire = w }) (closes_word (41 ∷ []) refl)))))
