use Rattle.cadf_join.proofs.Common.{from_list-rising, rising-from_list, rising_is_sorted, same_rising, texts_total, texts_same}
use Rattle.cadf_join.proofs.laws.order_determines_set.Goals as goal

pub returns : goal.returns
returns c = record {
  rises = rising_is_sorted texts_total texts_same;
  same = same_rising texts_total texts_same;
  made = from_list-rising texts_total texts_same;
  read = rising-from_list texts_total texts_same;
}
