mod GrownPasts
