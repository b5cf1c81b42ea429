-- The number of each worker.
use Rattle.std.specs.Prelude.{ℕ}
use Rattle.engine.specs.declared.worker.Worker.{Worker}
use Rattle.engine.specs.declared.worker.Worker.TheVariants.{W0, W1, W2, W3, W4, W5, W6, W7}

abbrev pub worker_number : Worker → ℕ
worker_number W0 = 0
worker_number W1 = 1
worker_number W2 = 2
worker_number W3 = 3
worker_number W4 = 4
worker_number W5 = 5
worker_number W6 = 6
worker_number W7 = 7
