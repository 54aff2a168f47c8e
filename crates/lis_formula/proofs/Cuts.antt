-- The array and the starts say the same as the stack of texts.
use Rattle.std.proofs.Common.{◌≡◌, ℕ, ◌+◌, ◌<◌, ◌≤◌, List, [], ◌∷◌, ◌++◌, length, take, drop, reverse, refl, ap, sym, ◌∙◌, arith, append_assoc, length-append}
use Rattle.std.proofs.lemmas.List.{take_at, drop_at, reverse-append, length-reverse}
use Rattle.lis_grammar.proofs.Fronts.{tail_of}
use Rattle.lis_formula.specs.Pieces.{stacked_text, starts_of, cut_at, IsCut, with_end, with_joint}

pub cut_back : (stack : List (List ℕ)) → cut_at (starts_of stack) (stacked_text stack) ≡ stack
cut_back [] = refl
cut_back (text ∷ stack) = two (drop_at (stacked_text stack) text (length (stacked_text stack)) refl) (ap (λ xs. cut_at (starts_of stack) xs) (take_at (stacked_text stack) text (length (stacked_text stack)) refl) ∙ cut_back stack)
  where
    two : {x : List ℕ} {xs : List (List ℕ)} → x ≡ text → xs ≡ stack → x ∷ xs ≡ text ∷ stack
    two e f = cc

-- if the array and the starts are those of a stack, they are cut into it
pub cut_is : (text starts : List ℕ) (stack : List (List ℕ)) → text ≡ stacked_text stack → starts ≡ starts_of stack → cut_at starts text ≡ stack
cut_is text starts stack e f = rw (e, f) (cut_back stack)

pub is_cut : (text starts : List ℕ) (stack : List (List ℕ)) → text ≡ stacked_text stack → starts ≡ starts_of stack → IsCut text starts
is_cut text starts stack e f =
    let same = cut_is text starts stack e f in
    record { whole = ap stacked_text same ∙ sym e; places = ap starts_of same ∙ sym f }

-- an array, its starts and the stack that they are
pub record IsStack (text starts : List ℕ) (stack : List (List ℕ)) : Type 0 where
  pub whole : text ≡ stacked_text stack
  pub places : reverse starts ≡ starts_of stack

pub stack_from : (text starts : List ℕ) (stack : List (List ℕ)) → IsCut text (reverse starts) → cut_at (reverse starts) text ≡ stack → IsStack text starts stack
stack_from text starts stack cut e = record { whole = sym cut.whole ∙ ap stacked_text e; places = sym cut.places ∙ ap starts_of e }

pub kept_cut : (text starts : List ℕ) (stack : List (List ℕ)) → IsStack text starts stack → IsCut text (reverse starts)
kept_cut text starts stack s = is_cut text (reverse starts) stack s.whole s.places

pub kept_stack : (text starts : List ℕ) (stack : List (List ℕ)) → IsStack text starts stack → cut_at (reverse starts) text ≡ stack
kept_stack text starts stack s = cut_is text (reverse starts) stack s.whole s.places

starts_count : (stack : List (List ℕ)) → length (starts_of stack) ≡ length stack
starts_count [] = refl
starts_count (text ∷ stack) = omega (arith, starts_count stack)

pub stack_count : (text starts : List ℕ) (stack : List (List ℕ)) → IsStack text starts stack → length starts ≡ length stack
stack_count text starts stack s = sym (length-reverse starts) ∙ (ap length s.places ∙ starts_count stack)

-- more at the end of the last text
pub stack_end : (text starts more bytes : List ℕ) (stack : List (List ℕ)) → IsStack text starts stack → 0 < length starts → more ≡ text ++ bytes
    → IsStack more starts (with_end bytes stack)
stack_end text starts more bytes [] s some e = absurd (let count = stack_count text starts [] s in omega (arith, count))
stack_end text starts more bytes (last ∷ stack) s some e =
    record { whole = e ∙ (ap (λ xs. xs ++ bytes) s.whole ∙ append_assoc (stacked_text stack) last bytes); places = s.places }

-- the last two become one

pub record Joins (text starts rest : List ℕ) (start : ℕ) (stack : List (List ℕ)) : Type 0 where
  pub inside : start ≤ length text
  pub after : (b : ℕ) (more : List ℕ) → more ≡ take start text ++ b ∷ drop start text → IsStack more rest (with_joint b stack)

pub stack_join : (text starts rest : List ℕ) (start : ℕ) (stack : List (List ℕ)) → IsStack text starts stack → 2 ≤ length starts → starts ≡ rest ++ start ∷ []
    → Joins text starts rest start stack
stack_join text starts rest start [] s two e = absurd (let count = stack_count text starts [] s in omega (arith, count))
stack_join text starts rest start (right ∷ []) s two e = absurd (let count = stack_count text starts (right ∷ []) s in omega (arith, count))
stack_join text starts rest start (right ∷ left ∷ stack) s two e =
    let before = stacked_text stack ++ left in
    let split = tail_of start (length before) (reverse rest) (starts_of (left ∷ stack)) (sym (ap reverse e ∙ reverse-append rest (start ∷ [])) ∙ s.places) in
    let at = split.0 in
    record {
      inside = omega (arith, at, ap length s.whole, length-append before right);
      after = λ b more f. record {
        whole =
            f ∙ (ap (λ n. take n text ++ b ∷ drop n text) at
            ∙ (ap (λ xs. take (length before) xs ++ b ∷ drop (length before) xs) s.whole
            ∙ (ap (λ xs. xs ++ b ∷ drop (length before) (before ++ right)) (take_at before right (length before) refl)
            ∙ (ap (λ xs. before ++ b ∷ xs) (drop_at before right (length before) refl) ∙ append_assoc (stacked_text stack) left (b ∷ right)))));
        places = split.1;
      };
    }

-- how the changes change the sizes

pub end_bytes : (bytes : List ℕ) (stack : List (List ℕ)) → length (stacked_text (with_end bytes stack)) ≤ length (stacked_text stack) + length bytes
end_bytes bytes [] = omega arith
end_bytes bytes (text ∷ stack) =
    omega (arith, length-append (stacked_text stack) (text ++ bytes), length-append text bytes, length-append (stacked_text stack) text)

pub end_count : (bytes : List ℕ) (stack : List (List ℕ)) → length (with_end bytes stack) ≡ length stack
end_count bytes [] = refl
end_count bytes (text ∷ stack) = refl

pub joint_bytes : (b : ℕ) (stack : List (List ℕ)) → length (stacked_text (with_joint b stack)) ≤ length (stacked_text stack) + 1
joint_bytes b [] = omega arith
joint_bytes b (right ∷ []) = omega arith
joint_bytes b (right ∷ left ∷ stack) =
    omega (arith, length-append (stacked_text stack) (left ++ b ∷ right), length-append left (b ∷ right), length-append (stacked_text stack ++ left) right, length-append (stacked_text stack) left)

pub joint_count : (b : ℕ) (stack : List (List ℕ)) → length (with_joint b stack) ≤ length stack
joint_count b [] = omega arith
joint_count b (right ∷ []) = omega arith
joint_count b (right ∷ left ∷ stack) = omega arith

pub joint_fewer : (b : ℕ) (stack : List (List ℕ)) → 1 < length stack → length (with_joint b stack) + 1 ≡ length stack
joint_fewer b [] two = absurd (omega arith)
joint_fewer b (right ∷ []) two = absurd (omega arith)
joint_fewer b (right ∷ left ∷ stack) two = omega arith
