-- One item or one site more.
use Rattle.std.proofs.Common.{◌≡◌, ℕ, ◌+◌, List, ◌++◌, length, ap, add-one}
use Rattle.sat_act.specs.declared.entry.Entry.{Entry}
use Rattle.sat_act.specs.Deployed.{Deployed}
use Rattle.sat_report.specs.Holdings.{item_line, item_lines, site_line, site_lines}

pub more_items : (d : Deployed) (h : List Entry) (i n : ℕ) → item_lines d h i (n + 1) ≡ item_lines d h i n ++ item_line d h i n
unfolding item_lines
more_items d h i n = ap (item_lines d h i) (add-one n)

pub more_sites : (d : Deployed) (h : List Entry) (n : ℕ) → site_lines d h (n + 1) ≡ site_lines d h n ++ (site_line d h n ++ item_lines d h n (length d.items))
unfolding site_lines
more_sites d h n = ap (site_lines d h) (add-one n)
