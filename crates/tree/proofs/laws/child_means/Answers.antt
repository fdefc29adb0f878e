use Rattle.std.proofs.Common.{inl, inr, arith}
use Rattle.std.proofs.lemmas.Bool.{cases_lt}
use Rattle.tree.proofs.Asking.{child_found, child_none}
use Rattle.tree.proofs.Means.{child_given, child_nobody}
use Rattle.tree.proofs.laws.child_means.Goals as goal

pub returns : goal.returns
returns c = record {
  finds = λ t w p a x. (
    λ e. let v = child_given p a 2 t.objects w.ascending x e in (v.0, v.1, λ y k h b. omega (arith, v.2 y k.0 k.1 k.2 h)),
    λ v. child_found p a 2 t.objects w.ascending x v.0.0 v.0.1 v.0.2 v.1 (λ y q e h k. elim (cases_lt y x) [ inl lt ↦ absurd (v.2 y (q, e, h) k lt) | inr le ↦ le ]),
  );
  none = λ t w p a. (λ e y k h. child_nobody p a t.objects e y k.0 k.1 k.2 h, λ h. child_none p a 2 t.objects w.ascending (λ y q e k. h y (q, e, k)));
}
