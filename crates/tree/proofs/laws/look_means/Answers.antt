use Rattle.tree.proofs.Asking.{look_found}
use Rattle.tree.proofs.Means.{look_given, look_no_directory, look_no_name}
use Rattle.tree.proofs.laws.look_means.Goals as goal

pub returns : goal.returns
returns c = record {
  finds = λ t w p n x. (look_given p n 2 t.objects w.ascending x, λ v. look_found t w p n x v.0 v.1 v.2);
  no_directory = look_no_directory;
  no_name = look_no_name;
}
