-- Restrictions admit exactly the trees that their variables bind.
use Rattle.std.specs.Prelude.{◌≡◌, ℕ, ◌<◌, List, [], ◌∷◌, length, Option, None, Some, refl}
use Rattle.std.proofs.Common.{zero, suc, arith, ap, sym, ◌∙◌, inl, inr, get_or}
use Rattle.tib_lex.specs.Lists.{Has, Each}
use Rattle.tib_tree.specs.Trees.{Trees, none, tree}
use Rattle.tib_grammar.proofs.Members.{has_left, has_right, each_of}
use Rattle.tib_transducer.specs.Rules.{transducer_rule, variables_of}
use Rattle.tib_transducer.specs.Run.{Binds}
use Rattle.tib_transducer.specs.declared.Variable.{Variable}
use Rattle.tib_transducer.specs.declared.TransducerRule.{TransducerRule}
use Rattle.tib_apply.specs.Restrictions.{with_label, labels_of, all_labels, without, once, restricted_labels, place_of, restriction, Admits}
use Rattle.tib_lex.proofs.Numbers.{nat_eq_cases}

-- the label of the variable, if it has one, is in the list
abbrev pub IsListed : List ℕ → Variable → Type 0
IsListed labels x = (g : ℕ) → x.label ≡ Some g → Has labels g

-- each tree is admitted by the restriction at its place
abbrev pub AreAdmitted : List ℕ → List ℕ → Trees ℕ → Type 0
AreAdmitted labels [] none = Unit {0}
AreAdmitted labels [] (tree f kids rest) = ⊥
AreAdmitted labels (e ∷ es) none = ⊥
AreAdmitted labels (e ∷ es) (tree f kids rest) = Admits labels e f × AreAdmitted labels es rest

has_without : (f g : ℕ) (fs : List ℕ) → Has fs g → (g ≡ f → ⊥) → Has (without f fs) g
has_without f g [] h n = absurd h
has_without f g (x ∷ xs) h n = elim (nat_eq_cases x f) [
  | inl k ↦ rw k.1 (elim h [ inl e ↦ absurd (n (sym e ∙ k.0)) | inr m ↦ has_without f g xs m n ])
  | inr k ↦ rw k.1 (elim h [ inl e ↦ inl e | inr m ↦ inr (has_without f g xs m n) ])
]

has_once : (fs : List ℕ) (g : ℕ) → Has fs g → Has (once fs) g
has_once [] g h = absurd h
has_once (f ∷ fs) g h = elim (nat_eq_cases g f) [
  | inl k ↦ inl (sym k.0)
  | inr k ↦ elim h [ inl e ↦ inl e | inr m ↦ inr (has_without f g (once fs) (has_once fs g m) k.0) ]
]

has_place : (f : ℕ) (fs : List ℕ) → Has fs f → (place_of f fs < length fs) × (get_or fs (place_of f fs) 0 ≡ f)
has_place f [] h = absurd h
has_place f (g ∷ gs) h = elim (nat_eq_cases g f) [
  | inl k ↦ rw k.1 (omega arith, k.0)
  | inr k ↦
      let m : Has gs f = elim h [ inl e ↦ absurd (k.0 e) | inr m ↦ m ] in
      let r = has_place f gs m in
      rw k.1 (omega (arith, r.0), r.1)
]

has_with : (l : Option ℕ) (fs : List ℕ) (g : ℕ) → l ≡ Some g → Has (with_label l fs) g
has_with None fs g e = absurd (cc)
has_with (Some f) fs g e = inl (cc)

has_more : (l : Option ℕ) (fs : List ℕ) (g : ℕ) → Has fs g → Has (with_label l fs) g
has_more None fs g h = h
has_more (Some f) fs g h = inr h

has_label : (xs : List Variable) (x : Variable) (g : ℕ) → Has xs x → x.label ≡ Some g → Has (labels_of xs) g
has_label [] x g h e = absurd h
has_label (y ∷ ys) x g h e = elim h [
  | inl k ↦ has_with y.label (labels_of ys) g (ap (λ z. z.label) k ∙ e)
  | inr m ↦ has_more y.label (labels_of ys) g (has_label ys x g m e)
]

has_all : (rules : List (TransducerRule ℕ)) (n g : ℕ) → n < length rules → Has (labels_of (variables_of (transducer_rule rules n).left)) g → Has (all_labels rules) g
has_all [] n g b h = absurd (omega arith)
has_all (r ∷ rs) zero g b h = has_left (labels_of (variables_of r.left)) (all_labels rs) g h
has_all (r ∷ rs) (suc n) g b h = has_right (labels_of (variables_of r.left)) (all_labels rs) g (has_all rs n g (omega arith) h)

-- the labels of variables are among those of the transducer
pub are_listed : (rules : List (TransducerRule ℕ)) (n : ℕ) → n < length rules → Each (IsListed (restricted_labels rules)) (variables_of (transducer_rule rules n).left)
are_listed rules n b =
    each_of (IsListed (restricted_labels rules)) (variables_of (transducer_rule rules n).left)
    (λ x h g e. has_once (all_labels rules) g (has_all rules n g b (has_label (variables_of (transducer_rule rules n).left) x g h e)))

pub admits : (labels : List ℕ) (l : Option ℕ) (f : ℕ) → ((g : ℕ) → l ≡ Some g → Has labels g) → Binds l f → Admits labels (restriction labels l) f
admits labels None f h b = tt
admits labels (Some g) f h b = let r = has_place g labels (h g refl) in (r.0, r.1 ∙ b)

pub binds : (labels : List ℕ) (l : Option ℕ) (f : ℕ) → ((g : ℕ) → l ≡ Some g → Has labels g) → Admits labels (restriction labels l) f → Binds l f
binds labels None f h a = tt
binds labels (Some g) f h a = sym (has_place g labels (h g refl)).1 ∙ a.1
